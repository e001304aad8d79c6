-- Objects with one member.
use Rattle.std.specs.Prelude.{ℕ, List, Option, Some, None}
use Rattle.serde_json.specs.Data.{Data, Members, no_members, member}
use Rattle.serde_json.specs.Find.{as_object}
use Rattle.json_tables.specs.Reading.{◌>>=◌}

abbrev pub single : Members → Option (List ℕ × Data)
single (member name d no_members) = Some (name, d)
single ms = None

-- the only member of an object, with its name
abbrev pub single_of : Data → Option (List ℕ × Data)
single_of d = as_object d >>= single
