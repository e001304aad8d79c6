-- A table that begins with `only` reads nothing from a text that `may_have_only` refuses.
use Rattle.std.proofs.Common.{◌≡◌, ℕ, List, Bool, true, false, if◌then◌else◌, Option, Some, None, option_and_then, refl}
use Rattle.serde_json.specs.Data.{Data}
use Rattle.json_values.specs.JsonText.{json_of, plain_json_of, is_plain}
use Rattle.json_tables.specs.Reading.{◌>>=◌}
use Rattle.json_tables.specs.Objects.{only}

module _ {A : Type 0} (names : List (List ℕ)) (table : Data → Option A) (begins : (d : Data) → only names d ≡ None → table d ≡ None) where
  of_data : (d : Data) (b : Bool) → only names d ≡ None → ((if b then Some d else None) >>= table) ≡ None
  of_data d true e = begins d e
  of_data d false e = refl

  of_json : (x : Option Data) → option_and_then (only names) x ≡ None → (option_and_then (λ d. if is_plain d then Some d else None) x >>= table) ≡ None
  of_json None e = refl
  of_json (Some d) e = of_data d (is_plain d) e

  pub plain_refused : (bytes : List ℕ) → option_and_then (only names) (json_of bytes) ≡ None → (plain_json_of bytes >>= table) ≡ None
  plain_refused bytes e = of_json (json_of bytes) e
