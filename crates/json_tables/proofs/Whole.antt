-- Types with themselves as normal form, and without floats.
use Rattle.std.proofs.Common.{◌≡◌, List, [], ◌∷◌, map, Bool, false, Option, Some, None, Ok, option_map, unwrap_or, refl, ap, ◌∙◌}
use Rattle.std.specs.List.{list_any}
use Rattle.serde_json.specs.Data.{Data}
use Rattle.serde_json.specs.Written.{has_float}
use Rattle.json_tables.specs.Reading.{list_of}
use Rattle.json_tables.specs.Member.{present, unless_null}
use Rattle.json_tables.specs.Outcomes.{ReadsDocument}
use Rattle.json_tables.specs.Again.{ReadsAgain, MemberReadsAgain}

map_same : {X : Type 0} (xs : List X) → map (λ x. x) xs ≡ xs
map_same [] = refl
map_same (x ∷ xs) = ap (λ ys. x ∷ ys) (map_same xs)

none_of : {X : Type 0} (xs : List X) → list_any (λ _. false) xs ≡ false
none_of [] = refl
none_of (x ∷ xs) = none_of xs

-- a list that must be present
pub list_member : {X : Type 0} (f : Data → Option X) {o : Option Data} (xs : List X) → MemberReadsAgain (present (list_of f)) o (map (λ x. x) xs) (list_any (λ _. false) xs) → MemberReadsAgain (present (list_of f)) o xs false
list_member f xs m = record { reads = m.reads ∙ ap Some (map_same xs); plain = λ _. m.plain (none_of xs) }

-- a list that may be missing
pub list_option : {X : Type 0} (f : Data → Option X) {o : Option Data} (xs : Option (List X)) → MemberReadsAgain (unless_null (list_of f)) o (option_map (map (λ x. x)) xs) (unwrap_or (option_map (list_any (λ _. false)) xs) false) → MemberReadsAgain (unless_null (list_of f)) o xs false
list_option f None m = record { reads = m.reads; plain = m.plain }
list_option f (Some xs) m = record { reads = m.reads ∙ ap (λ ys. Some (Some ys)) (map_same xs); plain = λ _. m.plain (none_of xs) }

-- any other member that may be missing
pub option_member : {X : Type 0} (f : Data → Option X) {o : Option Data} (x : Option X) → MemberReadsAgain (unless_null f) o (option_map (λ y. y) x) (unwrap_or (option_map (λ _. false) x) false) → MemberReadsAgain (unless_null f) o x false
option_member f None m = record { reads = m.reads; plain = m.plain }
option_member f (Some x) m = record { reads = m.reads; plain = m.plain }

-- a value that round-trips without floats is read as a document
pub document_again : {X : Type 0} (f : Data → Option X) (d e : Data) (x : X) (floats : Bool) → ReadsAgain f d x floats → floats ≡ false → e ≡ d → ReadsDocument (Ok x) f e
document_again f d e x floats again none same = (ap has_float same ∙ again.plain none, ap f same ∙ again.reads)
