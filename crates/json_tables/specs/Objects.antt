-- Objects by their names.
use Rattle.std.specs.Prelude.{ℕ, List, Bool, true, if◌then◌else◌, Option, Some, None, ⊤, ◌&&◌}
use Rattle.std.specs.List.{list_any}
use Rattle.std.specs.Str.{bytes_eq}
use Rattle.serde_json.specs.Data.{Data, Members, no_members, member}
use Rattle.serde_json.specs.Find.{as_object}
use Rattle.json_tables.specs.Reading.{◌>>=◌, Map, map_of}

-- an object with any members
abbrev pub an_object : Data → Option ⊤
an_object d = as_object d >>= λ ms. Some tt

-- an object whose values are objects: the set of its names
abbrev pub set_of : Data → Option (Map ⊤)
set_of = map_of an_object

-- whether each member has one of the names
abbrev pub names_within : List (List ℕ) → Members → Bool
names_within names no_members = true
names_within names (member k d ms) = list_any (bytes_eq k) names && names_within names ms

-- an object with no other members than these
abbrev pub only : List (List ℕ) → Data → Option ⊤
only names d = as_object d >>= λ ms. if names_within names ms then Some tt else None
