-- A list of values that round-trip round-trips.
use Rattle.std.proofs.Common.{◌≡◌, ℕ, ◌+◌, ◌<◌, List, [], ◌∷◌, ◌++◌, length, get_or, take, map, All, Bool, false, ◌||◌, Option, Some, refl, sym, ap, subst, ◌∙◌}
use Rattle.std.specs.List.{list_any}
use Rattle.std.proofs.lemmas.Bool.{or_parts}
use Rattle.std.proofs.lemmas.List.Elements.{All-head, All-tail, All-push}
use Rattle.serde_json.specs.declared.value.Value.{Value}
use Rattle.serde_json.specs.Data.{Data}
use Rattle.serde_json.specs.View.{view, items_of}
use Rattle.serde_json.specs.Written.{items_have_float}
use Rattle.json_values.specs.Writing.{listed}
use Rattle.json_values.proofs.Fronts.{front_more, values_written}
use Rattle.json_tables.specs.Reading.{◌>>=◌, items_by, list_of}
use Rattle.json_tables.specs.Again.{ReadsAgain}

module _ {X : Type 0} (f : Data → Option X) (w : X → Data) (n : X → X) (p : X → Bool) where
  abbrev pub Each : X → Type 0
  Each x = ReadsAgain f (w x) (n x) (p x)

  items_again : (xs : List X) → All Each xs → items_by f (items_of (map w xs)) ≡ Some (map n xs)
  items_again [] all = refl
  items_again (x ∷ xs) all =
      ap (λ o. o >>= λ y. items_by f (items_of (map w xs)) >>= λ ys. Some (y ∷ ys)) (All-head Each x xs all).reads
      ∙ ap (λ r. r >>= λ ys. Some (n x ∷ ys)) (items_again xs (All-tail Each x xs all))

  items_plain : (xs : List X) → All Each xs → list_any p xs ≡ false → items_have_float (items_of (map w xs)) ≡ false
  items_plain [] all none = refl
  items_plain (x ∷ xs) all none =
      let parts = or_parts (p x) (list_any p xs) none in
      ap (λ b. b || items_have_float (items_of (map w xs))) ((All-head Each x xs all).plain parts.0) ∙ items_plain xs (All-tail Each x xs all) parts.1

  pub list_again : (xs : List X) → All Each xs → ReadsAgain (list_of f) (listed w xs) (map n xs) (list_any p xs)
  list_again xs all = record { reads = items_again xs all; is_there = refl; plain = items_plain xs all }

-- the items written so far
pub record ItemsWritten {X : Type 0} (f : Data → Option X) (w : X → Data) (n : X → X) (p : X → Bool) (values : List Value) (xs : List X) : Type 0 where
  pub exact : map view values ≡ map w xs
  pub again : All (Each f w n p) xs

pub items_written : {X : Type 0} (f : Data → Option X) (w : X → Data) (n : X → X) (p : X → Bool) (values : List Value) (v : Value) (xs : List X) (i : ℕ) (x : X) → i < length xs → x ≡ get_or xs i x
    → ItemsWritten f w n p values (take i xs) → view v ≡ w x → Each f w n p x → ItemsWritten f w n p (values ++ v ∷ []) (take (i + 1) xs)
items_written f w n p values v xs i x h is so_far made again =
    record {
      exact = values_written w values v xs i x h is so_far.exact made;
      again = subst (All (Each f w n p)) (sym (front_more xs i x h is)) (All-push (Each f w n p) (take i xs) x so_far.again again);
    }
