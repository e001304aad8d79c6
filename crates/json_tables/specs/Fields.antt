-- How the members of an object are written.
use Rattle.std.specs.Prelude.{ℕ, List, [], ◌∷◌, Bool, true, false, ◌||◌, if◌then◌else◌, Option, Some, None, option_map}
use Rattle.std.specs.Prelude.{unwrap_or}
use Rattle.serde_json.specs.Data.{Data, null, boolean, number, string, array, object, Members, no_members, put}
use Rattle.serde_json.specs.Written.{has_float}

-- a member that is written, or none
abbrev pub Field : Type 0
Field = List ℕ × Option Data

abbrev pub put_some : List ℕ → Option Data → Members → Members
put_some name None ms = ms
put_some name (Some d) ms = put name d ms

-- the fields inserted one after another
abbrev pub with_fields : Members → List Field → Members
with_fields ms [] = ms
with_fields ms (f ∷ fs) = with_fields (put_some f.0 f.1 ms) fs

-- an object of these fields
abbrev pub fields : List Field → Data
fields fs = object (with_fields no_members fs)

abbrev pub is_null : Data → Bool
is_null null = true
is_null (boolean b) = false
is_null (number n) = false
is_null (string s) = false
is_null (array ds) = false
is_null (object ms) = false

-- whether a field contains a float
abbrev pub field_has_float : Option Data → Bool
field_has_float o = unwrap_or (option_map has_float o) false

-- whether one of the fields contains a float
abbrev pub fields_have_float : List Field → Bool
fields_have_float [] = false
fields_have_float (f ∷ fs) = field_has_float f.1 || fields_have_float fs

abbrev pub no_entries : {X : Type 0} → List X → Bool
no_entries [] = true
no_entries (x ∷ xs) = false

-- the value, if it is present and not empty
abbrev pub unless_empty : {X : Type 0} → (X → Bool) → Option X → Option X
unless_empty empty None = None
unless_empty empty (Some x) = if empty x then None else Some x
