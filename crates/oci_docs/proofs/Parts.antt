-- Members that are written in part.
use Rattle.std.proofs.Common.{◌≡◌, List, [], ◌∷◌, map, false, Option, Some, None, option_map, unwrap_or, refl, ap, ◌∙◌}
use Rattle.std.specs.List.{list_any}
use Rattle.serde_json.specs.Data.{Data}
use Rattle.json_tables.specs.Reading.{list_of}
use Rattle.json_tables.specs.Member.{unless_null}
use Rattle.json_tables.specs.Again.{MemberReadsAgain}

map_same : {X : Type 0} (xs : List X) → map (λ x. x) xs ≡ xs
map_same [] = refl
map_same (x ∷ xs) = ap (λ ys. x ∷ ys) (map_same xs)

none_of : {X : Type 0} (xs : List X) → list_any (λ _. false) xs ≡ false
none_of [] = refl
none_of (x ∷ xs) = none_of xs

no_float_in : {X : Type 0} (xs : Option (List X)) → unwrap_or (option_map (list_any (λ _. false)) xs) false ≡ false
no_float_in None = refl
no_float_in (Some xs) = none_of xs

none_in : {X : Type 0} (x : Option X) → unwrap_or (option_map (λ _. false) x) false ≡ false
none_in None = refl
none_in (Some x) = refl

lists_same : {X : Type 0} (xs : Option (List X)) → option_map (map (λ x. x)) xs ≡ xs
lists_same None = refl
lists_same (Some xs) = ap Some (map_same xs)

option_same : {X : Type 0} (x : Option X) → option_map (λ y. y) x ≡ x
option_same None = refl
option_same (Some x) = refl

-- a list that is written in part
pub list_unless : {X : Type 0} (f : Data → Option X) {o : Option Data} (part whole : Option (List X)) → MemberReadsAgain (unless_null (list_of f)) o (option_map (map (λ x. x)) part) (unwrap_or (option_map (list_any (λ _. false)) whole) false) → MemberReadsAgain (unless_null (list_of f)) o part false
list_unless f part whole m = record { reads = m.reads ∙ ap Some (lists_same part); plain = λ _. m.plain (no_float_in whole) }

-- any other member that is written in part
pub option_unless : {X : Type 0} (f : Data → Option X) {o : Option Data} (part whole : Option X) → MemberReadsAgain (unless_null f) o (option_map (λ y. y) part) (unwrap_or (option_map (λ _. false) whole) false) → MemberReadsAgain (unless_null f) o part false
option_unless f part whole m = record { reads = m.reads ∙ ap Some (option_same part); plain = λ _. m.plain (none_in whole) }

-- a member whose normal form is written
pub option_normal : {X : Type 0} (f : Data → Option X) (normal : X → X) {o : Option Data} (x : Option X) → MemberReadsAgain (unless_null f) o (option_map normal x) (unwrap_or (option_map (λ _. false) x) false) → MemberReadsAgain (unless_null f) o (option_map normal x) false
option_normal f normal x m = record { reads = m.reads; plain = λ _. m.plain (none_in x) }
