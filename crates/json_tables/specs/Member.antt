-- Members of an object.
use Rattle.std.specs.Prelude.{ℕ, List, Option, Some, None, option_map}
use Rattle.serde_json.specs.Data.{Data, null, member}
use Rattle.serde_json.specs.Find.{get}
use Rattle.json_tables.specs.Reading.{◌>>=◌}

-- the member, if it is present
abbrev pub present : {X : Type 0} → (Data → Option X) → Option Data → Option X
present f o = o >>= f

-- none if the member is missing or null
abbrev pub unless_null : {X : Type 0} → (Data → Option X) → Option Data → Option (Option X)
unless_null f None = Some None
unless_null f (Some null) = Some None
unless_null f (Some d) = option_map Some (f d)

-- any value, null if the member is missing
abbrev pub or_null : Option Data → Option Data
or_null None = Some null
or_null (Some d) = Some d

-- a member that must be present
abbrev pub required : {X : Type 0} → (Data → Option X) → List ℕ → Data → Option X
required f name d = get name d >>= f

-- a member that may be missing or null
abbrev pub optional : {X : Type 0} → (Data → Option X) → List ℕ → Data → Option (Option X)
optional f name d = unless_null f (get name d)

-- a reader of a member by its name
abbrev pub at_name : {X : Type 0} → (Option Data → Option X) → List ℕ → Data → Option X
at_name f name d = f (get name d)
