-- How members in a row are written under their names.
use Rattle.std.specs.Prelude.{ℕ, List, [], ◌∷◌, Option, ⊤}
use Rattle.serde_json.specs.Data.{Data}
use Rattle.json_tables.specs.Fields.{Field}

abbrev pub no_fields : List (List ℕ) → ⊤ → List Field
no_fields names row = []

-- a member under the first name, and the rest of the row under the others; without a name, under the empty one
abbrev pub fields_of : {A B : Type 0} → (A → Option Data)
    → (List (List ℕ) → B → List Field) → List (List ℕ) → A → B → List Field
fields_of f rest [] x xs = ([], f x) ∷ rest [] xs
fields_of f rest (name ∷ names) x xs = (name, f x) ∷ rest names xs
