-- Values whose compact text is canonical as it is.
use Rattle.std.proofs.Common.{◌≡◌, ℕ, List, [], ◌∷◌, map, flat_map, Bool, true, false, ◌||◌, ◌<◌, suc, arith, ◌++◌, if◌then◌else◌, ℤ, pos, Some, None, refl, ap, ◌∙◌, Less, string_bytes, String, IsTrue}
use Rattle.std.specs.declared.alloc.Global.{Global}
use Rattle.std.specs.Char.Escape.{encode_utf16}
use Rattle.std.specs.Cmp.Lexicographic.{slice_cmp}
use Rattle.std.proofs.str.Utf16.{one_unit}
use Rattle.std.proofs.lemmas.List.Concat.{flat_map-cons}
use Rattle.std.specs.List.{AllByRecursion}
use Rattle.std.specs.List.Sorted.{IsStrictlySortedBy}
use Rattle.std.specs.Ordering.{nat_cmp}
use Rattle.std.specs.Str.{IsAscii}
use Rattle.std.specs.String.{string_cmp}
use Rattle.std.proofs.lemmas.List.Sorted.{IsPermutation-refl}
use Rattle.std.proofs.lemmas.Str.{chars-IsAscii, IsUtf8-from_ascii}
use Rattle.serde_json.specs.Data.{Num, unsigned, negative, float, Data, null, boolean, number, string, array, object, Items, no_items, item, Members, no_members, member}
use Rattle.serde_json.specs.Find.{as_integer}
use Rattle.serde_json.specs.View.{view, members_view}
use Rattle.serde_json.specs.Written.{compact_text, number_text, has_float, items_have_float, members_have_float}
use Rattle.serde_json.specs.declared.value.Value.{Value}
use Rattle.json_values.proofs.Escapes.{quoted-same}
use Rattle.json_events.specs.Canonical.{Canonical, CanonicalItems, CanonicalMembers, Rises, in_range}
use Rattle.json_events.specs.Refused.{refused_by}
use Rattle.json_events.specs.Scalars.{refused_integer}
use Rattle.json_events.specs.declared.error.CanonError.TheVariants.{IntegerOutOfRange}
use Rattle.json_events.specs.Units.{units, by_units}
use Rattle.json_events.specs.Values.{IsValue, AreValues, AreMembers, IsOther}
use Rattle.json_canon.proofs.Compact.{texts_of, item_texts, array_compact, object_compact, truth_compact}
use Rattle.json_canon.proofs.Walks.{different}
use Rattle.json_canon.specs.Plain.{IsPlain, ArePlain, ArePlainMembers, IsBefore}

-- ---- what a walk still has to see

pub record PlainLeft (all left : List (String Global × Value)) : Type 0 where
  pub plain : ArePlainMembers (members_view left) → ArePlainMembers (members_view all)
  pub ordered : IsStrictlySortedBy string_cmp (map (λ e. e.0) left)

before_all : (k : String Global) (es : List (String Global × Value)) → AllByRecursion (λ y. string_cmp k y ≡ Less) (map (λ e. e.0) es) → IsBefore (string_bytes k) (members_view es)
before_all k [] below = tt
before_all k (e ∷ es) below = (below.0, before_all k es below.1)

pub plain_next : (all es : List (String Global × Value)) (e : String Global × Value) → PlainLeft all (e ∷ es) → IsAscii (string_bytes e.0) → IsPlain (view e.1) → PlainLeft all es
unfolding IsStrictlySortedBy
plain_next all es e left ascii plain = record {
  plain = λ rest. left.plain (ascii, before_all e.0 es left.ordered.0, plain, rest);
  ordered = left.ordered.1;
}

-- ---- ASCII names are in the order of their units

same_units_ascii : (k : List ℕ) → IsAscii k → flat_map encode_utf16 k ≡ k
same_units_ascii [] ascii = refl
same_units_ascii (c ∷ cs) ascii =
    let first : c < 128 = ascii 0 in
    flat_map-cons encode_utf16 c cs ∙ ap (λ u. u ++ flat_map encode_utf16 cs) (one_unit c (omega (arith, first))) ∙ ap (λ u. c ∷ u) (same_units_ascii cs (λ i. ascii (suc i)))

units_ascii : (k : List ℕ) → IsAscii k → units k ≡ k
unfolding units
units_ascii k ascii = ap (flat_map encode_utf16) (chars-IsAscii k ascii) ∙ same_units_ascii k ascii

by_units_ascii : (k l : List ℕ) → IsAscii k → IsAscii l → slice_cmp nat_cmp k l ≡ Less → by_units k l ≡ Less
by_units_ascii k l a b less = ap (λ u. slice_cmp nat_cmp u (units l)) (units_ascii k a) ∙ ap (slice_cmp nat_cmp k) (units_ascii l b) ∙ less

less_all : (k : List ℕ) (ms : Members) → IsAscii k → IsBefore k ms → ArePlainMembers ms → AllByRecursion (λ l. by_units k l ≡ Less) (map (λ e. e.0) (texts_of ms))
less_all k no_members ascii below plain = tt
less_all k (member l d ms) ascii below plain = (by_units_ascii k l ascii plain.0 below.0, less_all k ms ascii below.1 plain.3)

rises : (ms : Members) → ArePlainMembers ms → Rises (texts_of ms)
unfolding IsStrictlySortedBy
rises no_members plain = tt
rises (member k d ms) plain = (less_all k ms plain.0 plain.1 plain.3, rises ms plain.3)

-- ---- the compact text

bool_of : (b : Bool) → (if b then None else Some IntegerOutOfRange) ≡ None → b ≡ true
bool_of true plain = refl
bool_of false plain = cc

in_range_plain : (z : ℤ) → refused_integer z ≡ None → IsTrue (in_range z)
in_range_plain z plain = bool_of (in_range z) plain

number_plain : (n : Num) → refused_by (as_integer n) ≡ None → Canonical (number n) (number_text n)
number_plain (unsigned n) plain = (pos n, refl, in_range_plain (pos n) plain, refl)
number_plain (negative z) plain = (z, refl, in_range_plain z plain, refl)
number_plain (float x) plain = cc

mutual
  pub compact_canonical : (d : Data) → IsPlain d → Canonical d (compact_text d)
  compact_canonical null plain = refl
  compact_canonical (boolean b) plain = truth_compact b
  compact_canonical (number n) plain = number_plain n plain
  compact_canonical (string s) plain = quoted-same s
  compact_canonical (array ds) plain = (item_texts ds, items_canonical ds plain, array_compact ds)
  compact_canonical (object ms) plain = (
    texts_of ms,
    members_canonical ms plain,
    record { order = texts_of ms; same = IsPermutation-refl _; rises = rises ms plain; text = object_compact ms },
  )

  items_canonical : (ds : Items) → ArePlain ds → CanonicalItems ds (item_texts ds)
  items_canonical no_items plain = tt
  items_canonical (item d ds) plain = (compact_canonical d plain.0, items_canonical ds plain.1)

  members_canonical : (ms : Members) → ArePlainMembers ms → CanonicalMembers ms (texts_of ms)
  members_canonical no_members plain = tt
  members_canonical (member k d ms) plain = (refl, compact_canonical d plain.2, members_canonical ms plain.3)

-- ---- the value

others : (k : List ℕ) (ms : Members) → IsBefore k ms → IsOther k ms
others k no_members below = tt
others k (member l d ms) below = (different k l below.0, others k ms below.1)

mutual
  pub plain_value : (d : Data) → IsPlain d → IsValue d
  plain_value null plain = tt
  plain_value (boolean b) plain = tt
  plain_value (number n) plain = tt
  plain_value (string s) plain = plain
  plain_value (array ds) plain = plain_values ds plain
  plain_value (object ms) plain = plain_members ms plain

  plain_values : (ds : Items) → ArePlain ds → AreValues ds
  plain_values no_items plain = tt
  plain_values (item d ds) plain = (plain_value d plain.0, plain_values ds plain.1)

  plain_members : (ms : Members) → ArePlainMembers ms → AreMembers ms
  plain_members no_members plain = tt
  plain_members (member k d ms) plain = (IsUtf8-from_ascii k plain.0, others k ms plain.1, plain_value d plain.2, plain_members ms plain.3)

-- ---- no float

number_whole : (n : Num) → refused_by (as_integer n) ≡ None → has_float (number n) ≡ false
number_whole (unsigned n) plain = refl
number_whole (negative z) plain = refl
number_whole (float x) plain = cc

mutual
  pub plain_whole : (d : Data) → IsPlain d → has_float d ≡ false
  plain_whole null plain = refl
  plain_whole (boolean b) plain = refl
  plain_whole (number n) plain = number_whole n plain
  plain_whole (string s) plain = refl
  plain_whole (array ds) plain = plain_wholes ds plain
  plain_whole (object ms) plain = plain_whole_members ms plain

  plain_wholes : (ds : Items) → ArePlain ds → items_have_float ds ≡ false
  plain_wholes no_items plain = refl
  plain_wholes (item d ds) plain = ap (λ b. b || items_have_float ds) (plain_whole d plain.0) ∙ plain_wholes ds plain.1

  plain_whole_members : (ms : Members) → ArePlainMembers ms → members_have_float ms ≡ false
  plain_whole_members no_members plain = refl
  plain_whole_members (member k d ms) plain = ap (λ b. b || members_have_float ms) (plain_whole d plain.2) ∙ plain_whole_members ms plain.3
