-- Keys of any kind, and their signers.
use Rattle.std.specs.Prelude.{ℕ, List, if◌then◌else◌, Option, option_map, Result, Ok, Err}
use Rattle.std.specs.Option.{option_or}
use Rattle.sig_keys.specs.Ec.{ecdsa_signer}
use Rattle.sig_keys.specs.Ecdsa.{inner_of, curve_keys_of}
use Rattle.sig_keys.specs.Ed25519.{ed25519_keys_of, ed25519_signer}
use Rattle.key_parts.specs.KeyPair.{Public}
use Rattle.sig_keys.specs.Rsa.{rsa_keys_of, rsa_signer}
use Rattle.key_parts.specs.Scheme.{kind_of, fits, padding_under}
use Rattle.key_parts.specs.declared.error.KeyError.{KeyError}
use Rattle.key_parts.specs.declared.error.KeyError.TheVariants.{UnmatchedKeyAndSigningScheme}
use Rattle.sig_keys.specs.declared.pair.SigStoreKeyPair.{SigStoreKeyPair}
use Rattle.sig_keys.specs.declared.pair.SigStoreKeyPair.TheVariants.{ECDSA, ED25519, RSA}
use Rattle.key_parts.specs.declared.scheme.DigestAlgorithm.TheVariants.{Sha256}
use Rattle.key_parts.specs.declared.scheme.KeyKind.{KeyKind}
use Rattle.key_parts.specs.declared.scheme.KeyKind.TheVariants as kind
use Rattle.key_parts.specs.declared.scheme.SigningScheme.{SigningScheme}
use Rattle.key_parts.specs.declared.scheme.SigningScheme.TheVariants as scheme
use Rattle.sig_keys.specs.declared.store_signer.SigStoreSigner.{SigStoreSigner}
use Rattle.sig_keys.specs.declared.store_signer.SigStoreSigner.TheVariants as signer

-- the keys of the first of ECDSA, Ed25519 and RSA for which the bytes are a private key
abbrev pub pair_read : Public → List ℕ → Option SigStoreKeyPair
pair_read public pkcs8 = option_or (option_map ECDSA (curve_keys_of public pkcs8))
    (option_or (option_map ED25519 (ed25519_keys_of public pkcs8)) (option_map RSA (rsa_keys_of public pkcs8)))

abbrev pub pair_kind : SigStoreKeyPair → KeyKind
pair_kind (ECDSA keys) = kind_of (inner_of keys).curve
pair_kind (ED25519 keys) = kind.Ed25519
pair_kind (RSA keys) = kind.Rsa

abbrev pub pair_public : SigStoreKeyPair → List ℕ
pair_public (ECDSA keys) = (inner_of keys).spki_der
pair_public (ED25519 keys) = keys.spki_der
pair_public (RSA keys) = keys.spki_der

abbrev pub pair_private : SigStoreKeyPair → List ℕ
pair_private (ECDSA keys) = (inner_of keys).pkcs8_der
pair_private (ED25519 keys) = keys.pkcs8_der
pair_private (RSA keys) = keys.pkcs8_der

-- the scheme of a verification key that is requested with this scheme
abbrev pub pair_scheme : SigStoreKeyPair → SigningScheme → SigningScheme
pair_scheme (ECDSA keys) asked = asked
pair_scheme (ED25519 keys) asked = scheme.ED25519
pair_scheme (RSA keys) asked = asked

-- a signer with these keys; for RSA, with SHA-256 and the padding of the scheme
abbrev pub signer_with : SigStoreKeyPair → SigningScheme → SigStoreSigner
signer_with (ECDSA keys) asked = signer.ECDSA (ecdsa_signer (inner_of keys))
signer_with (ED25519 keys) asked = signer.ED25519 (ed25519_signer keys)
signer_with (RSA keys) asked = signer.RSA (rsa_signer keys Sha256 (padding_under asked))

-- the signer, if keys of this kind sign under the scheme
abbrev pub signer_under : SigStoreKeyPair → SigningScheme → Result SigStoreSigner KeyError
signer_under pair asked =
    if fits (pair_kind pair) asked then Ok (signer_with pair asked)
    else Err (UnmatchedKeyAndSigningScheme (pair_kind pair) asked)
