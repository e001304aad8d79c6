-- Verification keys, and how public keys are derived.
use Rattle.std.specs.Prelude.{ℕ, List, Option}
use Rattle.key_parts.specs.declared.key_pair.CosignVerificationKey.{CosignVerificationKey}
use Rattle.key_parts.specs.declared.scheme.KeyKind.{KeyKind}
use Rattle.key_parts.specs.declared.scheme.SigningScheme.{SigningScheme}

-- a public key with a scheme
abbrev pub verification_key : SigningScheme → List ℕ → CosignVerificationKey
verification_key scheme key = record { scheme = scheme; key = key }

-- the public key of a private key of this kind, if the bytes are one
abbrev pub Public : Type 0
Public = KeyKind → List ℕ → Option (List ℕ)
