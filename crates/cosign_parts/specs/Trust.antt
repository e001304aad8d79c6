-- Whom a reader of layers trusts.
use Rattle.std.specs.Prelude.{ℕ, List, Bool, Option}
use Rattle.std.specs.FinMap.{FinMap, entries}
use Rattle.json_values.specs.Places.{by_bytes}
use Rattle.cosign_parts.specs.Items.{has_no_item}
use Rattle.cosign_parts.specs.declared.certificate.Evidence.{Evidence}
use Rattle.cosign_parts.specs.declared.certificate.Vouched.{Vouched}
use Rattle.cosign_parts.specs.declared.trust.Trusted.{Trusted}

-- which signatures are valid, by key, message and signature
abbrev pub Valid : Type 0
Valid = List ℕ → List ℕ → List ℕ → Bool

-- what is vouched for a certificate
abbrev pub Vouching : Type 0
Vouching = Evidence → Option Vouched

-- which signatures are valid, what is vouched for certificates, and the keys of transparency logs by their ids
pub record Trust : Type 0 where
  pub valid : Valid
  pub vouched : Vouching
  pub log_keys : FinMap by_bytes (List ℕ)

abbrev pub trust : Valid → Vouching → FinMap by_bytes (List ℕ) → Trust
trust valid vouched log_keys = record { valid = valid; vouched = vouched; log_keys = log_keys }

-- what a reader borrows, given what its verifier and judge decide
abbrev pub trust_of : {V O : Type 0} → (V → Valid) → (O → Vouching) → Trusted V O → Trust
trust_of valid vouched t = trust (valid t.verifier.now) (vouched t.judge.now) t.log_keys.now

-- whether there are no log keys
abbrev pub knows_no_log : Trust → Bool
knows_no_log trust = has_no_item (entries trust.log_keys)
