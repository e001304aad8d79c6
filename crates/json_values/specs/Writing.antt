-- How values are written as JSON data.
use Rattle.std.specs.Prelude.{ℕ, List, [], ◌∷◌, map, Option, Some, None}
use Rattle.std.specs.FinMap.{FinMap, entries}
use Rattle.serde_json.specs.Data.{Data, null, array, object, Members, no_members, member}
use Rattle.serde_json.specs.View.{items_of}
use Rattle.json_values.specs.Places.{by_bytes}

-- an option, none being null
abbrev pub null_or : {X : Type 0} → (X → Data) → Option X → Data
null_or f None = null
null_or f (Some x) = f x

-- a list
abbrev pub listed : {X : Type 0} → (X → Data) → List X → Data
listed f xs = array (items_of (map f xs))

abbrev pub members_list : {V : Type 0} → (V → Data) → List (List ℕ × V) → Members
members_list f [] = no_members
members_list f (e ∷ es) = member e.0 (f e.1) (members_list f es)

-- a map: its entries in the order of their names
abbrev pub map_written : {V : Type 0} → (V → Data) → FinMap by_bytes V → Data
map_written f m = object (members_list f (entries m))

abbrev pub empty_object : Unit {0} → Data
empty_object _ = object no_members

-- a set: its names, each with an empty object
abbrev pub set_written : FinMap by_bytes (Unit {0}) → Data
set_written = map_written empty_object
