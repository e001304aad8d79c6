-- Signers of any kind.
use Rattle.std.specs.Prelude.{ℕ, List}
use Rattle.sig_keys.specs.Ecdsa.{wrapped}
use Rattle.key_parts.specs.Scheme.{curve_scheme, padding_scheme}
use Rattle.sig_keys.specs.declared.pair.SigStoreKeyPair.{SigStoreKeyPair}
use Rattle.sig_keys.specs.declared.pair.SigStoreKeyPair.TheVariants as pair
use Rattle.key_parts.specs.declared.scheme.SigningScheme.{SigningScheme}
use Rattle.key_parts.specs.declared.scheme.SigningScheme.TheVariants as scheme
use Rattle.sig_keys.specs.declared.store_signer.SigStoreSigner.{SigStoreSigner}
use Rattle.sig_keys.specs.declared.store_signer.SigStoreSigner.TheVariants.{ECDSA, ED25519, RSA}

-- the scheme under which it signs
abbrev pub signer_scheme : SigStoreSigner → SigningScheme
signer_scheme (ECDSA signer) = curve_scheme signer.keys.curve
signer_scheme (ED25519 signer) = scheme.ED25519
signer_scheme (RSA signer) = padding_scheme signer.padding

-- its private key
abbrev pub signer_private : SigStoreSigner → List ℕ
signer_private (ECDSA signer) = signer.keys.pkcs8_der
signer_private (ED25519 signer) = signer.keys.pkcs8_der
signer_private (RSA signer) = signer.keys.pkcs8_der

-- its public key
abbrev pub signer_public : SigStoreSigner → List ℕ
signer_public (ECDSA signer) = signer.keys.spki_der
signer_public (ED25519 signer) = signer.keys.spki_der
signer_public (RSA signer) = signer.keys.spki_der

-- its keys
abbrev pub pair_of : SigStoreSigner → SigStoreKeyPair
pair_of (ECDSA signer) = pair.ECDSA (wrapped signer.keys)
pair_of (ED25519 signer) = pair.ED25519 signer.keys
pair_of (RSA signer) = pair.RSA signer.keys
