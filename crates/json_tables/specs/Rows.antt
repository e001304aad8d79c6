-- Members in a row, and the value that is built from them if each is read under its name.
use Rattle.std.specs.Prelude.{◌≡◌, ℕ, List, [], ◌∷◌, Option, Some, None, Result, Ok, Err, ⊤}
use Rattle.serde_json.specs.Data.{Data}
use Rattle.json_tables.specs.Outcomes.{Refuses}
use Rattle.json_tables.specs.Reading.{◌>>=◌}
use Rattle.json_tables.specs.Member.{at_name}
use Rattle.json_tables.specs.declared.error.ReadError.{ReadError}

-- the value that is built if there are no members
abbrev pub made_of_none : {X : Type 0} → List (List ℕ) → Data → Option X → Option X
made_of_none names d made = made

-- the value that is built from a member under the first name and the rest of the row under the others
abbrev pub made_of : {A X M : Type 0} → (Option Data → Option A)
    → (List (List ℕ) → Data → M → Option X) → List (List ℕ) → Data → (A → M) → Option X
made_of f rest [] d make = None
made_of f rest (name ∷ names) d make = do
  x ← at_name f name d
  rest names d (make x)

-- each member separately
abbrev pub IsRow : {A B : Type 0} → (Option Data → Option A)
    → (List (List ℕ) → Data → B → Type 0) → List (List ℕ) → Data → (A × B) → Type 0
IsRow f Rest [] d t = ⊥
IsRow f Rest (name ∷ names) d t = (at_name f name d ≡ Some t.0) × Rest names d t.1

-- if the result is an error, the row is refused
abbrev pub IfRefused : {R X : Type 0} → Result R ReadError → Option X → Type 0
IfRefused (Ok row) made = ⊤
IfRefused (Err e) made = Refuses e made
