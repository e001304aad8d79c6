-- Whether two values are the same, compared part by part. A float is the same as nothing.
use Rattle.std.specs.Prelude.{Bool, true, false, ◌&&◌, ◌==◌, bytes_eq, not}
use Rattle.std.specs.Ordering.{int_eq}
use Rattle.serde_json.specs.Data.{Num, unsigned, negative, Data, null, boolean, number, string, array, object}
use Rattle.serde_json.specs.Data.{Items, no_items, item, Members, no_members, member}

abbrev pub same_truth : Bool → Bool → Bool
same_truth true b = b
same_truth false b = not b

abbrev pub same_number : Num → Num → Bool
same_number (unsigned m) (unsigned n) = m == n
same_number (negative m) (negative n) = int_eq m n
same_number _ _ = false

abbrev mutual
  pub same_data : Data → Data → Bool
  same_data null null = true
  same_data (boolean a) (boolean b) = same_truth a b
  same_data (number m) (number n) = same_number m n
  same_data (string s) (string t) = bytes_eq s t
  same_data (array xs) (array ys) = same_items xs ys
  same_data (object xs) (object ys) = same_members xs ys
  same_data _ _ = false

  pub same_items : Items → Items → Bool
  same_items no_items no_items = true
  same_items (item x xs) (item y ys) = same_data x y && same_items xs ys
  same_items _ _ = false

  pub same_members : Members → Members → Bool
  same_members no_members no_members = true
  same_members (member k x xs) (member l y ys) = bytes_eq k l && same_data x y && same_members xs ys
  same_members _ _ = false
