-- Laws of canonical texts and the values that they determine.
use Rattle.std.specs.Prelude.{◌≡◌, ◌↔◌, ◌≤◌, ◌<◌, ℕ, List, Some, None, Result, Ok, Err, ⊤, nat_le}
use Rattle.std.specs.Prelude.{if◌then◌else◌}
use Rattle.serde_json.specs.Data.{Data, depth}
use Rattle.serde_json.specs.Read.{max_depth}
use Rattle.json_values.specs.JsonText.{json_of}
use Rattle.json_events.specs.declared.error.CanonError.{CanonError}
use Rattle.json_events.specs.declared.error.CanonError.TheVariants.{Unreadable, WantOfMemory}
use Rattle.json_events.specs.Canonical.{Canonical}
use Rattle.json_events.specs.Values.{IsValue}
use Rattle.json_canon.specs.AsMaps.{as_maps}

-- values have one text if and only if they are equal, with objects as maps
abbrev pub TextsTell : Type 0
TextsTell = (d e : Data) (t u : List ℕ) → IsValue d → IsValue e → Canonical d t → Canonical e u
    → (t ≡ u) ↔ (as_maps d ≡ as_maps e)

-- a text parses to its value, unless it nests too deep
abbrev pub TextsReadBack : Type 0
TextsReadBack = (d : Data) (t : List ℕ) → IsValue d → Canonical d t
    → json_of t ≡ (if nat_le (depth d) max_depth then Some (as_maps d) else None)

-- why a text of the value is not returned
abbrev pub RefusesBack : CanonError → Data → Type 0
RefusesBack Unreadable d = max_depth < depth d
RefusesBack WantOfMemory d = ⊤
RefusesBack e d = ⊥

-- a text of the value is returned, or it nests too deep
abbrev pub GivesBack : Result (List ℕ) CanonError → Data → List ℕ → Type 0
GivesBack (Ok u) d t = (u ≡ t) × (depth d ≤ max_depth)
GivesBack (Err e) d t = RefusesBack e d

abbrev pub PipesBack : Result (List ℕ) CanonError → List ℕ → Type 0
PipesBack r t = (d : Data) → IsValue d → Canonical d t → GivesBack r d t
