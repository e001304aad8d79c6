-- Properties of every value of `serde_json`: its strings are UTF-8, and an object has no duplicate name.
use Rattle.std.specs.Prelude.{◌≢◌, ℕ, List, IsUtf8, ⊤}
use Rattle.serde_json.specs.Data.{Data, null, boolean, number, string, array, object, Items}
use Rattle.serde_json.specs.Data.{no_items, item, Members, no_members, member}

-- the name differs from all of these
abbrev pub IsOther : List ℕ → Members → Type 0
IsOther k no_members = ⊤
IsOther k (member l d ms) = (k ≢ l) × IsOther k ms

abbrev mutual
  pub IsValue : Data → Type 0
  IsValue null = ⊤
  IsValue (boolean b) = ⊤
  IsValue (number n) = ⊤
  IsValue (string s) = IsUtf8 s
  IsValue (array ds) = AreValues ds
  IsValue (object ms) = AreMembers ms

  pub AreValues : Items → Type 0
  AreValues no_items = ⊤
  AreValues (item d ds) = IsValue d × AreValues ds

  pub AreMembers : Members → Type 0
  AreMembers no_members = ⊤
  AreMembers (member k d ms) = IsUtf8 k × IsOther k ms × IsValue d × AreMembers ms
