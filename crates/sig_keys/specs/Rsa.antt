-- RSA keys.
use Rattle.std.specs.Prelude.{ℕ, List, Option, option_map}
use Rattle.key_parts.specs.KeyPair.{Public}
use Rattle.sig_keys.specs.declared.rsa.RSAKeys.{RSAKeys}
use Rattle.sig_keys.specs.declared.rsa.RSASigner.{RSASigner}
use Rattle.key_parts.specs.declared.scheme.DigestAlgorithm.{DigestAlgorithm}
use Rattle.key_parts.specs.declared.scheme.KeyKind.{KeyKind}
use Rattle.key_parts.specs.declared.scheme.KeyKind.TheVariants as kind
use Rattle.key_parts.specs.declared.scheme.PaddingScheme.{PaddingScheme}

-- the keys, if the bytes are an RSA private key
abbrev pub rsa_keys_of : Public → List ℕ → Option RSAKeys
rsa_keys_of public pkcs8 =
    option_map (λ spki. record { pkcs8_der = pkcs8; spki_der = spki }) (public kind.Rsa pkcs8)

abbrev pub rsa_signer : RSAKeys → DigestAlgorithm → PaddingScheme → RSASigner
rsa_signer keys digest padding = record { keys = keys; digest = digest; padding = padding }

-- the keys were made, with this many bits
abbrev pub MadeRsa : (KeyKind → ℕ → List ℕ → List ℕ → Type 0) → ℕ → RSAKeys → Type 0
MadeRsa Made bits keys = Made kind.Rsa bits keys.pkcs8_der keys.spki_der
