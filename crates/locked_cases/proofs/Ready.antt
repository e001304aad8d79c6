-- Properties of the cases of each input.
use Rattle.std.proofs.Common.{◌≡◌, Bool, true, false, ◌&&◌, nat_lt, List, [], ◌∷◌, map, length, Option, Some, None, IfSome, codes, refl}
use Rattle.std.specs.Prelude.{if◌then◌else◌}
use Rattle.std.specs.List.{All, list_all}
use Rattle.std.proofs.lemmas.Bool.{eqb-true}
use Rattle.std.proofs.lemmas.List.Elements.{All-nil, All-cons}
use Rattle.serde_json.specs.Data.{Data, Items, no_items, item}
use Rattle.serde_json.specs.Find.{get, as_array}
use Rattle.json_tables.specs.Reading.{◌>>=◌, text_of, list_of, items_by}
use Rattle.json_tables.specs.Objects.{only}
use Rattle.json_tables.specs.Member.{required}
use Rattle.recorded_case.specs.Case.{case_of, IsReady}
use Rattle.recorded_case.specs.Members.{passing}
use Rattle.recorded_case.specs.declared.case.Case.{Case}
use Rattle.recorded_case.proofs.CaseParts.{case_ready, through}
use Rattle.pulled_cases.specs.Once.{HasOneMoment}
use Rattle.locked_cases.specs.Input.{can_be_locked, has_one_moment, ascending, whole_of, cases_of, check_of, AreReady}
use Rattle.locked_cases.specs.declared.input.CheckInput.{CheckInput}
use Rattle.locked_cases.specs.declared.input.LockInput.{LockInput}

-- ---- the cases of a list

AllReady : List Case → Type 0
AllReady cases = All IsReady cases

items_ready : (items : Items) → IfSome (items_by case_of items) AllReady
unfolding AllReady
items_ready no_items = All-nil IsReady
items_ready (item d ds) =
    through AllReady (case_of d) _ (λ case is.
    through AllReady (items_by case_of ds) _ (λ cases more.
    All-cons IsReady case cases (of_case case (case_of d) is (case_ready d)) (of_cases cases (items_by case_of ds) more (items_ready ds)))) where
      of_case : (case : Case) (o : Option Case) → o ≡ Some case → IfSome o IsReady → IsReady case
      of_case case o is h = rw is at h

      of_cases : (cases : List Case) (o : Option (List Case)) → o ≡ Some cases → IfSome o AllReady → All IsReady cases
      of_cases cases o is h = rw is at h

list_ready : (d : Data) → IfSome (list_of case_of d) AllReady
list_ready d = through AllReady (as_array d) (items_by case_of) (λ items _. items_ready items)

-- ---- what the test of them says

three : (a b c : Bool) → (a && b && c) ≡ true → (b ≡ true) × (c ≡ true)
three true true c h = (refl, h)
three true false c h = absurd (cc h)
three false b c h = absurd (cc h)

split : (a b : Bool) → (a && b) ≡ true → (a ≡ true) × (b ≡ true)
split true b h = (refl, h)
split false b h = absurd (cc h)

once : (cases : List Case) → list_all has_one_moment cases ≡ true → All HasOneMoment cases
once [] h = All-nil HasOneMoment
once (case ∷ cases) h =
    let parts = split (has_one_moment case) (list_all has_one_moment cases) h in
    All-cons HasOneMoment case cases (eqb-true (length case.moments) 1 parts.0) (once cases parts.1)

-- the input of these cases
abbrev input_of : List Case → Option LockInput
input_of cases = Some (record { cases = cases })

passed : (cases : List Case) (b : Bool) → can_be_locked cases ≡ b → All IsReady cases → IfSome ((if b then Some cases else None) >>= input_of) AreReady
passed cases false is ready = tt
passed cases true is ready =
    let parts = three (nat_lt 0 (length cases)) (list_all has_one_moment cases) (ascending (map whole_of cases)) is in
    record { ready = ready; once = once cases parts.0; order = parts.1 }

cases_ready : (d : Data) → IfSome (cases_of d) AreReady
unfolding cases_of AllReady
cases_ready d = through AreReady (list_of case_of d) (λ cases. passing can_be_locked cases >>= input_of) (λ cases is. passed cases (can_be_locked cases) refl (of cases (list_of case_of d) is (list_ready d))) where
  of : (cases : List Case) (o : Option (List Case)) → o ≡ Some cases → IfSome o AllReady → All IsReady cases
  of cases o is h = rw is at h

pub json_ready : (o : Option Data) → IfSome (o >>= cases_of) AreReady
json_ready None = tt
json_ready (Some d) = cases_ready d

-- ---- the case beside a file

abbrev CheckReady : CheckInput → Type 0
CheckReady input = IsReady input.case

pub found_ready : (o : Option Data) (case : Case) → (o >>= case_of) ≡ Some case → IsReady case
found_ready None case is = absurd (cc is)
found_ready (Some d) case is = of case (case_of d) is (case_ready d) where
  of : (case : Case) (o : Option Case) → o ≡ Some case → IfSome o IsReady → IsReady case
  of case o is h = rw is at h

check_ready : (d : Data) → IfSome (check_of d) CheckReady
unfolding check_of
check_ready d =
    through CheckReady (only (codes "case" ∷ codes "lock" ∷ []) d) _ (λ known _.
    through CheckReady (required text_of (codes "lock") d) _ (λ lock _.
    through CheckReady (required case_of (codes "case") d) _ (λ case is. found_ready (get (codes "case") d) case is)))

pub json_check_ready : (o : Option Data) → IfSome (o >>= check_of) CheckReady
json_check_ready None = tt
json_check_ready (Some d) = check_ready d
