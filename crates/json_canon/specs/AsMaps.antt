-- A value with its objects as maps.
use Rattle.std.specs.Prelude.{ℤ, pos, negsuc, Option, Some, None}
use Rattle.serde_json.specs.Data.{Num, unsigned, negative, Data, null, boolean, number, string}
use Rattle.serde_json.specs.Data.{array, object, Items, no_items, item, Members, no_members, member}
use Rattle.serde_json.specs.Data.{put}
use Rattle.serde_json.specs.Find.{as_integer}

-- an integer as it is parsed: unsigned, unless it is negative
abbrev pub whole : ℤ → Num
whole (pos n) = unsigned n
whole (negsuc n) = negative (negsuc n)

abbrev pub whole_or : Num → Option ℤ → Num
whole_or n None = n
whole_or n (Some z) = whole z

-- the members inserted into a map one after another: of a duplicate name, the last member is kept
abbrev pub put_all : Members → Members → Members
put_all no_members found = found
put_all (member k d ms) found = put_all ms (put k d found)

abbrev mutual
  -- the value as `serde_json` parses it: the names of each object once, in the order of their bytes, and integers
  -- as they are parsed
  pub as_maps : Data → Data
  as_maps null = null
  as_maps (boolean b) = boolean b
  as_maps (number n) = number (whole_or n (as_integer n))
  as_maps (string s) = string s
  as_maps (array ds) = array (items_as_maps ds)
  as_maps (object ms) = object (put_all (members_as_maps ms) no_members)

  pub items_as_maps : Items → Items
  items_as_maps no_items = no_items
  items_as_maps (item d ds) = item (as_maps d) (items_as_maps ds)

  pub members_as_maps : Members → Members
  members_as_maps no_members = no_members
  members_as_maps (member k d ms) = member k (as_maps d) (members_as_maps ms)
