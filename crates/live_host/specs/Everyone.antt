-- The trust of a search without questions: each signature is valid, and no certificate is vouched for.
use Rattle.std.specs.Prelude.{ℕ, List, [], Bool, true, Option, Some, None}
use Rattle.std.specs.FinMap.{FinMap}
use Rattle.json_values.specs.Places.{by_bytes}
use Rattle.cosign_parts.specs.Trust.{Trust, trust}
use Rattle.cosign_parts.specs.declared.certificate.Evidence.{Evidence}
use Rattle.cosign_parts.specs.declared.certificate.Vouched.{Vouched}

abbrev pub all_valid : List ℕ → List ℕ → List ℕ → Bool
all_valid key message signature = true

abbrev pub nobody : Vouched
nobody = record { key = []; email = None; url = None; issuer = None }

abbrev pub all_vouched : Evidence → Option Vouched
all_vouched evidence = Some nobody

-- with these keys of logs
abbrev pub everyone : FinMap by_bytes (List ℕ) → Trust
everyone log_keys = trust all_valid all_vouched log_keys
