-- Ed25519 keys.
use Rattle.std.specs.Prelude.{ℕ, List, Option, option_map}
use Rattle.key_parts.specs.KeyPair.{Public}
use Rattle.sig_keys.specs.declared.ed25519.Ed25519Keys.{Ed25519Keys}
use Rattle.sig_keys.specs.declared.ed25519.Ed25519Signer.{Ed25519Signer}
use Rattle.key_parts.specs.declared.scheme.KeyKind.{KeyKind}
use Rattle.key_parts.specs.declared.scheme.KeyKind.TheVariants as kind

-- the keys, if the bytes are an Ed25519 private key
abbrev pub ed25519_keys_of : Public → List ℕ → Option Ed25519Keys
ed25519_keys_of public pkcs8 =
    option_map (λ spki. record { pkcs8_der = pkcs8; spki_der = spki }) (public kind.Ed25519 pkcs8)

abbrev pub ed25519_signer : Ed25519Keys → Ed25519Signer
ed25519_signer keys = record { keys = keys }

-- the keys were made
abbrev pub MadeEd25519 : (KeyKind → ℕ → List ℕ → List ℕ → Type 0) → Ed25519Keys → Type 0
MadeEd25519 Made keys = Made kind.Ed25519 0 keys.pkcs8_der keys.spki_der
