-- ECDSA keys of one curve.
use Rattle.std.specs.Prelude.{◌≡◌, ℕ, List, Option, option_map}
use Rattle.std.specs.Option.{option_or}
use Rattle.key_parts.specs.KeyPair.{Public}
use Rattle.key_parts.specs.Scheme.{kind_of}
use Rattle.sig_keys.specs.declared.ecdsa.ec.EcdsaKeys.{EcdsaKeys}
use Rattle.sig_keys.specs.declared.ecdsa.ec.EcdsaSigner.{EcdsaSigner}
use Rattle.key_parts.specs.declared.scheme.EllipticCurve.{EllipticCurve}
use Rattle.key_parts.specs.declared.scheme.EllipticCurve.TheVariants as curves
use Rattle.key_parts.specs.declared.scheme.KeyKind.{KeyKind}

-- the keys, if the bytes are a private key on this curve
abbrev pub keys_on : Public → List ℕ → EllipticCurve → Option EcdsaKeys
keys_on public pkcs8 curve =
    option_map (λ spki. record { curve = curve; pkcs8_der = pkcs8; spki_der = spki }) (public (kind_of curve) pkcs8)

-- the keys on the first curve on which the bytes are a private key
abbrev pub ecdsa_keys_of : Public → List ℕ → Option EcdsaKeys
ecdsa_keys_of public pkcs8 = option_or (keys_on public pkcs8 curves.P256)
    (option_or (keys_on public pkcs8 curves.P384) (keys_on public pkcs8 curves.P521))

abbrev pub ecdsa_signer : EcdsaKeys → EcdsaSigner
ecdsa_signer keys = record { keys = keys }

-- the keys are on this curve, and were made for it
abbrev pub MadeKeys : (KeyKind → ℕ → List ℕ → List ℕ → Type 0) → EllipticCurve → EcdsaKeys → Type 0
MadeKeys Made curve keys = (keys.curve ≡ curve) × Made (kind_of curve) 0 keys.pkcs8_der keys.spki_der
