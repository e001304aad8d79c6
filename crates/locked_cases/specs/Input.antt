-- The inputs of `lock` and `lockcheck`.
use Rattle.std.specs.Prelude.{◌≡◌, ℕ, Bool, true, ◌&&◌, ◌==◌, nat_lt, List, [], ◌∷◌, length, map, All, Option, Some, Result}
use Rattle.std.specs.Prelude.{Ok, Err, codes}
use Rattle.std.specs.List.{list_all, zip}
use Rattle.std.specs.Ordering.{is_lt}
use Rattle.serde_json.specs.Data.{Data}
use Rattle.json_values.specs.JsonText.{plain_json_of}
use Rattle.json_values.specs.Places.{by_bytes}
use Rattle.json_tables.specs.Reading.{◌>>=◌, text_of, list_of}
use Rattle.json_tables.specs.Member.{required}
use Rattle.json_tables.specs.Objects.{only}
use Rattle.oci_names.specs.Reference.{reference_of, whole_text}
use Rattle.oci_names.specs.declared.parse_error.ParseError.{ParseError}
use Rattle.oci_names.specs.declared.reference.Reference.{Reference}
use Rattle.recorded_case.specs.Case.{case_of, IsReady}
use Rattle.recorded_case.specs.Members.{passing}
use Rattle.recorded_case.specs.declared.case.Case.{Case}
use Rattle.pulled_cases.specs.Once.{HasOneMoment}
use Rattle.locked_cases.specs.declared.input.CheckInput.{CheckInput}
use Rattle.locked_cases.specs.declared.input.LockInput.{LockInput}

abbrev pub whole_named : Result Reference ParseError → List ℕ
whole_named (Ok image) = whole_text image
whole_named (Err e) = []

-- the whole text of a case's reference
abbrev pub whole_of : Case → List ℕ
whole_of case = whole_named (reference_of case.reference)

-- whether each text is less than the next one, by their bytes
abbrev pub ascending : List (List ℕ) → Bool
ascending [] = true
ascending (t ∷ ts) = list_all (λ p. is_lt (by_bytes p.0 p.1)) (zip (t ∷ ts) ts)

abbrev pub has_one_moment : Case → Bool
has_one_moment case = length case.moments == 1

-- at least one case, each with one moment; the whole texts of their references increase strictly
abbrev pub can_be_locked : List Case → Bool
can_be_locked cases = nat_lt 0 (length cases) && list_all has_one_moment cases && ascending (map whole_of cases)

-- a list of such cases
unfoldable pub cases_of : Data → Option LockInput
cases_of d = do
  cases ← list_of case_of d
  fit ← passing can_be_locked cases
  Some (record { cases = fit })

-- the cases in a JSON text without floats
abbrev pub cases_in : List ℕ → Option LockInput
cases_in bytes = plain_json_of bytes >>= cases_of

-- each can be pulled once, in this order
pub record AreReady (input : LockInput) : Type 0 where
  pub ready : All IsReady input.cases
  pub once : All HasOneMoment input.cases
  pub order : ascending (map whole_of input.cases) ≡ true

-- a case, and the text of a lock file; no other members
unfoldable pub check_of : Data → Option CheckInput
check_of d = do
  known ← only (codes "case" ∷ codes "lock" ∷ []) d
  lock ← required text_of (codes "lock") d
  case ← required case_of (codes "case") d
  Some (record { case = case; lock = lock })

-- the case and the file in a JSON text without floats
abbrev pub check_in : List ℕ → Option CheckInput
check_in bytes = plain_json_of bytes >>= check_of
