-- The `Display` and `Debug` output of keys and signers: the text contains no key.
use Rattle.std.specs.Prelude.{ℕ, List, ◌++◌, codes}
use Rattle.sig_keys.specs.Ecdsa.{inner_of}
use Rattle.sig_keys.specs.declared.ecdsa.ec.EcdsaKeys.{EcdsaKeys}
use Rattle.sig_keys.specs.declared.ecdsa.ECDSAKeys.{ECDSAKeys as AnyCurveKeys}
use Rattle.sig_keys.specs.declared.ecdsa.ECDSAKeys.TheVariants as on
use Rattle.sig_keys.specs.declared.pair.SigStoreKeyPair.{SigStoreKeyPair}
use Rattle.sig_keys.specs.declared.pair.SigStoreKeyPair.TheVariants as pair
use Rattle.sig_keys.specs.declared.store_signer.SigStoreSigner.{SigStoreSigner}
use Rattle.sig_keys.specs.declared.store_signer.SigStoreSigner.TheVariants as signer
use Rattle.key_parts.specs.Shown.{curve_name}

abbrev pub printed_keys : AnyCurveKeys → List ℕ
printed_keys keys = codes "ECDSA " ++ curve_name (inner_of keys).curve

abbrev pub printed_pair : SigStoreKeyPair → List ℕ
printed_pair (pair.ECDSA keys) = codes "EC Key"
printed_pair (pair.ED25519 keys) = codes "Ed25519 Key"
printed_pair (pair.RSA keys) = codes "RSA Key"

abbrev pub shown_ecdsa_keys : EcdsaKeys → List ℕ
shown_ecdsa_keys keys = codes "EcdsaKeys { curve: " ++ curve_name keys.curve ++ codes ", .. }"

abbrev pub shown_curve_keys : AnyCurveKeys → List ℕ
shown_curve_keys (on.P256 keys) = codes "P256(..)"
shown_curve_keys (on.P384 keys) = codes "P384(..)"
shown_curve_keys (on.P521 keys) = codes "P521(..)"

abbrev pub shown_pair : SigStoreKeyPair → List ℕ
shown_pair (pair.ECDSA keys) = codes "ECDSA(..)"
shown_pair (pair.ED25519 keys) = codes "ED25519(..)"
shown_pair (pair.RSA keys) = codes "RSA(..)"

abbrev pub shown_signer : SigStoreSigner → List ℕ
shown_signer (signer.ECDSA keys) = codes "ECDSA(..)"
shown_signer (signer.ED25519 keys) = codes "ED25519(..)"
shown_signer (signer.RSA keys) = codes "RSA(..)"
