-- ECDSA keys of any curve.
use Rattle.std.specs.Prelude.{◌≡◌, ℕ, List, Option, option_map}
use Rattle.sig_keys.specs.Ec.{ecdsa_keys_of, MadeKeys}
use Rattle.key_parts.specs.KeyPair.{Public}
use Rattle.sig_keys.specs.declared.ecdsa.ec.EcdsaKeys.{EcdsaKeys}
use Rattle.sig_keys.specs.declared.ecdsa.ECDSAKeys.{ECDSAKeys as AnyCurveKeys}
use Rattle.sig_keys.specs.declared.ecdsa.ECDSAKeys.TheVariants as on
use Rattle.key_parts.specs.declared.scheme.EllipticCurve.{EllipticCurve}
use Rattle.key_parts.specs.declared.scheme.EllipticCurve.TheVariants as curves
use Rattle.key_parts.specs.declared.scheme.KeyKind.{KeyKind}

-- the keys under the variant of a curve
abbrev pub wrapped_on : EllipticCurve → EcdsaKeys → AnyCurveKeys
wrapped_on curves.P256 keys = on.P256 keys
wrapped_on curves.P384 keys = on.P384 keys
wrapped_on curves.P521 keys = on.P521 keys

-- the keys under the variant of their curve
abbrev pub wrapped : EcdsaKeys → AnyCurveKeys
wrapped keys = wrapped_on keys.curve keys

-- the keys of any variant
abbrev pub inner_of : AnyCurveKeys → EcdsaKeys
inner_of (on.P256 keys) = keys
inner_of (on.P384 keys) = keys
inner_of (on.P521 keys) = keys

-- the keys on the first curve on which the bytes are a private key
abbrev pub curve_keys_of : Public → List ℕ → Option AnyCurveKeys
curve_keys_of public pkcs8 = option_map wrapped (ecdsa_keys_of public pkcs8)

-- the keys are on this curve, under its variant, and were made for it
abbrev pub MadeOnCurve : (KeyKind → ℕ → List ℕ → List ℕ → Type 0) → EllipticCurve → AnyCurveKeys → Type 0
MadeOnCurve Made curve keys = (keys ≡ wrapped_on curve (inner_of keys)) × MadeKeys Made curve (inner_of keys)
