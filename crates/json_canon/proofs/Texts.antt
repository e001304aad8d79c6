-- Canonical texts are UTF-8.
use Rattle.std.proofs.Common.{◌≡◌, ℕ, ◌<◌, ◌≤◌, ◌^◌, nat_le, ℤ, pos, negsuc, Bool, true, false, ◌&&◌, IsTrue, List, [], ◌∷◌, ◌++◌, map, refl, sym, subst, IsUtf8, arith}
use Rattle.std.proofs.lemmas.Bool.{leb-true}
use Rattle.std.specs.Fmt.{signed_decimal}
use Rattle.std.specs.List.{join_with_byte, AllByRecursion}
use Rattle.std.proofs.lemmas.List.Elements.{All-from_recursion}
use Rattle.std.proofs.lemmas.List.Sorted.{All-permutation}
use Rattle.std.proofs.lemmas.Str.{IsUtf8-append, IsUtf8-from_ascii, IsUtf8-nil}
use lib.Signed.{mag}
use Rattle.json.proofs.Printed.Utf8.{IsUtf8-quoted, IsUtf8-are_ascii}
use Rattle.json_values.proofs.Escapes.{quoted-same}
use Rattle.json_values.specs.Canon.{quoted_text}
use Rattle.std.proofs.lemmas.List.Elements.{recursion_from_All}
use Rattle.std.proofs.lemmas.Fmt.{IsAscii-signed}
use Rattle.serde_json.specs.Data.{Data, null, boolean, number, string, array, object, Items, no_items, item, Members, no_members, member}
use Rattle.json_events.specs.Canonical.{Canonical, CanonicalItems, CanonicalMembers, Entry, in_range, entry_text, truth_text, IsObjectText}
use Rattle.json_events.specs.Values.{IsValue, AreValues, AreMembers}

pub string_utf8 : (s : List ℕ) → IsUtf8 s → IsUtf8 (quoted_text s)
string_utf8 s text = subst IsUtf8 (quoted-same s) (IsUtf8-quoted s text)

both : (a b : Bool) → (a && b) ≡ true → (a ≡ true) × (b ≡ true)
both true b e = (refl, e)
both false b e = cc

pub small : (z : ℤ) → IsTrue (in_range z) → mag z < 2 ^ 63
small (pos n) is = let top : n ≤ 9007199254740991 = leb-true n 9007199254740991 is in omega (arith, top)
small (negsuc n) is = let low : n ≤ 9007199254740990 = leb-true n 9007199254740990 (both (nat_le n 9007199254740990) true is).0 in omega (arith, low)

pub integer_utf8 : (z : ℤ) → IsTrue (in_range z) → IsUtf8 (signed_decimal z)
integer_utf8 z is = IsUtf8-from_ascii (signed_decimal z) (IsAscii-signed z (small z is))

byte_utf8 : (b : ℕ) (t : List ℕ) → IsUtf8 (b ∷ []) → IsUtf8 t → IsUtf8 (b ∷ t)
byte_utf8 b t one rest = IsUtf8-append (b ∷ []) t one rest

joined_utf8 : (ts : List (List ℕ)) → AllByRecursion IsUtf8 ts → IsUtf8 (join_with_byte 44 ts)
joined_utf8 [] all = IsUtf8-nil
joined_utf8 (x ∷ []) all = all.0
joined_utf8 (x ∷ y ∷ ts) all = IsUtf8-append x _ all.0 (byte_utf8 44 _ (IsUtf8-are_ascii (44 ∷ []) refl) (joined_utf8 (y ∷ ts) all.1))

between_utf8 : (a b : ℕ) (t : List ℕ) → IsUtf8 (a ∷ []) → IsUtf8 (b ∷ []) → IsUtf8 t → IsUtf8 (a ∷ (t ++ b ∷ []))
between_utf8 a b t first last text = byte_utf8 a _ first (IsUtf8-append t (b ∷ []) text last)

abbrev BothUtf8 : Entry → Type 0
BothUtf8 e = IsUtf8 e.0 × IsUtf8 e.1

entries_utf8 : (es : List Entry) → AllByRecursion BothUtf8 es → AllByRecursion IsUtf8 (map entry_text es)
entries_utf8 [] all = tt
entries_utf8 (e ∷ es) all = (IsUtf8-append (quoted_text e.0) _ (string_utf8 e.0 all.0.0) (byte_utf8 58 e.1 (IsUtf8-are_ascii (58 ∷ []) refl) all.0.1), entries_utf8 es all.1)

object_utf8 : (es : List Entry) (t : List ℕ) → AllByRecursion BothUtf8 es → IsObjectText es t → IsUtf8 t
object_utf8 es t all is =
    let ordered = recursion_from_All BothUtf8 is.order (All-permutation BothUtf8 es is.order is.same (All-from_recursion BothUtf8 es all)) in
    subst IsUtf8 (sym is.text) (between_utf8 123 125 _ (IsUtf8-are_ascii (123 ∷ []) refl) (IsUtf8-are_ascii (125 ∷ []) refl) (joined_utf8 (map entry_text is.order) (entries_utf8 is.order ordered)))

truth_utf8 : (b : Bool) → IsUtf8 (truth_text b)
truth_utf8 true = IsUtf8-are_ascii _ refl
truth_utf8 false = IsUtf8-are_ascii _ refl

mutual
  pub canonical_utf8 : (d : Data) (t : List ℕ) → IsValue d → Canonical d t → IsUtf8 t
  canonical_utf8 null t value is = subst IsUtf8 (sym is) (IsUtf8-are_ascii _ refl)
  canonical_utf8 (boolean b) t value is = subst IsUtf8 (sym is) (truth_utf8 b)
  canonical_utf8 (number n) t value is = subst IsUtf8 (sym is.3) (integer_utf8 is.0 is.2)
  canonical_utf8 (string s) t value is = subst IsUtf8 (sym is) (string_utf8 s value)
  canonical_utf8 (array ds) t value is = subst IsUtf8 (sym is.2) (between_utf8 91 93 _ (IsUtf8-are_ascii (91 ∷ []) refl) (IsUtf8-are_ascii (93 ∷ []) refl) (joined_utf8 is.0 (items_utf8 ds is.0 value is.1)))
  canonical_utf8 (object ms) t value is = object_utf8 is.0 t (members_utf8 ms is.0 value is.1) is.2

  items_utf8 : (ds : Items) (ts : List (List ℕ)) → AreValues ds → CanonicalItems ds ts → AllByRecursion IsUtf8 ts
  items_utf8 no_items [] values are = tt
  items_utf8 no_items (t ∷ ts) values are = absurd are
  items_utf8 (item d ds) [] values are = absurd are
  items_utf8 (item d ds) (t ∷ ts) values are = (canonical_utf8 d t values.0 are.0, items_utf8 ds ts values.1 are.1)

  members_utf8 : (ms : Members) (es : List Entry) → AreMembers ms → CanonicalMembers ms es → AllByRecursion BothUtf8 es
  members_utf8 no_members [] values are = tt
  members_utf8 no_members (e ∷ es) values are = absurd are
  members_utf8 (member k d ms) [] values are = absurd are
  members_utf8 (member k d ms) (e ∷ es) values are = ((subst IsUtf8 (sym are.0) values.0, canonical_utf8 d e.1 values.2 are.1), members_utf8 ms es values.3 are.2)
