-- A canonical text is the compact text of the value with its members in the order of their names' units.
use Rattle.std.proofs.Common.{◌≡◌, ◌≢◌, ℕ, ℤ, pos, negsuc, List, [], ◌∷◌, ◌++◌, map, Bool, true, false, Ordering, Less, Equal, Greater, refl, sym, ap, ◌∙◌, append_assoc}
use Rattle.std.specs.Fmt.{signed_decimal}
use Rattle.std.specs.List.{join_with_byte, AllByRecursion}
use Rattle.std.specs.List.Sorted.{IsPermutation, IsStrictlySortedBy}
use Rattle.std.specs.Ordering.{match_ordering, ordering_reverse}
use Rattle.std.proofs.lemmas.List.Sorted.{IsPermutation-refl, IsPermutation-cons, IsPermutation-trans, IsPermutation-to_front, IsPermutation-append}
use Rattle.json.specs.Print.{quoted}
use Rattle.serde_json.specs.Data.{Data, null, boolean, number, string, array, object, Items, no_items, item, Members, no_members, member}
use Rattle.serde_json.specs.Written.{number_text, compact_text, items_text, members_text}
use Rattle.json_values.specs.Canon.{quoted_text}
use Rattle.json_values.proofs.Escapes.{quoted-same}
use Rattle.json_events.specs.Canonical.{Canonical, CanonicalItems, CanonicalMembers, Entry, Rises, entry_text, truth_text, array_text, object_text}
use Rattle.json_events.specs.Units.{by_units}
use Rattle.json_events.proofs.Unique.{unique}
use Rattle.json_canon.specs.AsMaps.{whole, whole_or}
use Rattle.json_canon.proofs.MemberOrders.{place, arranged, arranged_items, arranged_members}
use Rattle.json_canon.proofs.Maps.{Apart, AreApart, ItemsApart, MembersApart, by_units_total, apart_arranged}

abbrev pub by_names : Data → Data
by_names = arranged by_units

-- the members with their texts
abbrev pub texts_of : Members → List Entry
texts_of no_members = []
texts_of (member k d ms) = (k, compact_text d) ∷ texts_of ms

abbrev pub item_texts : Items → List (List ℕ)
item_texts no_items = []
item_texts (item d ds) = compact_text d ∷ item_texts ds

-- ---- compact texts are joined by commas

items_joined : (d : Data) (ds : Items) → items_text false (item d ds) ≡ join_with_byte 44 (compact_text d ∷ item_texts ds) ++ 93 ∷ []
items_joined d no_items = refl
items_joined d (item e es) = ap (λ s. compact_text d ++ 44 ∷ s) (items_joined e es) ∙ sym (append_assoc (compact_text d) (44 ∷ join_with_byte 44 (compact_text e ∷ item_texts es)) (93 ∷ []))

pub array_compact : (ds : Items) → compact_text (array ds) ≡ array_text (item_texts ds)
array_compact no_items = refl
array_compact (item d ds) = ap (λ s. 91 ∷ s) (items_joined d ds)

one_member : (k : List ℕ) (d : Data) (rest : List ℕ) → quoted k ++ 58 ∷ (compact_text d ++ rest) ≡ entry_text (k, compact_text d) ++ rest
one_member k d rest = ap (λ q. q ++ 58 ∷ (compact_text d ++ rest)) (quoted-same k) ∙ sym (append_assoc (quoted_text k) (58 ∷ compact_text d) rest)

members_joined : (k : List ℕ) (d : Data) (ms : Members) → members_text false (member k d ms) ≡ join_with_byte 44 (map entry_text ((k, compact_text d) ∷ texts_of ms)) ++ 125 ∷ []
members_joined k d no_members = one_member k d (125 ∷ [])
members_joined k d (member l e ms) =
    one_member k d (44 ∷ members_text false (member l e ms)) ∙ ap (λ s. entry_text (k, compact_text d) ++ 44 ∷ s) (members_joined l e ms)
    ∙ sym (append_assoc (entry_text (k, compact_text d)) (44 ∷ join_with_byte 44 (map entry_text ((l, compact_text e) ∷ texts_of ms))) (125 ∷ []))

pub object_compact : (ms : Members) → compact_text (object ms) ≡ object_text (texts_of ms)
object_compact no_members = refl
object_compact (member k d ms) = ap (λ s. 123 ∷ s) (members_joined k d ms)

-- ---- inserting members keeps them, in order

two_swapped : (e x : Entry) (xs : List Entry) → IsPermutation (e ∷ x ∷ xs) (x ∷ e ∷ xs)
two_swapped e x xs = IsPermutation-append (e ∷ x ∷ []) (x ∷ e ∷ []) xs xs (IsPermutation-to_front (e ∷ []) x) (IsPermutation-refl xs)

placed_at : (o : Ordering) (k l : List ℕ) (d e : Data) (ms : Members) → by_units k l ≡ o → by_units k l ≢ Equal
    → IsPermutation ((k, compact_text d) ∷ texts_of ms) (texts_of (place by_units k d ms))
    → IsPermutation ((k, compact_text d) ∷ (l, compact_text e) ∷ texts_of ms) (texts_of (match_ordering o (member k d (member l e ms)) (member l d ms) (member l e (place by_units k d ms))))
placed_at Less k l d e ms is told rest = IsPermutation-refl _
placed_at Equal k l d e ms is told rest = absurd (told is)
placed_at Greater k l d e ms is told rest = IsPermutation-trans _ _ _ (two_swapped (k, compact_text d) (l, compact_text e) (texts_of ms)) (IsPermutation-cons (l, compact_text e) _ _ rest)

placed : (k : List ℕ) (d : Data) (ms : Members) → Apart k ms → IsPermutation ((k, compact_text d) ∷ texts_of ms) (texts_of (place by_units k d ms))
placed k d no_members apart = IsPermutation-refl _
placed k d (member l e ms) apart = placed_at (by_units k l) k l d e ms refl apart.0.1 (placed k d ms apart.1)

-- the name is less than those of the members
abbrev Above : List ℕ → Members → Type 0
Above k ms = AllByRecursion (λ l. by_units k l ≡ Less) (map (λ e. e.0) (texts_of ms))

above_both : (k l : List ℕ) (ms : Members) → by_units k l ≡ Less → Above l ms → Above k ms
above_both k l no_members less all = tt
above_both k l (member m e ms) less all = (by_units_total.trans k l m less all.0, above_both k l ms less all.1)

above_place_at : (o : Ordering) (m k l : List ℕ) (d e : Data) (ms : Members) → by_units m k ≡ Less → Above m (member l e ms) → Above m (place by_units k d ms)
    → Above m (match_ordering o (member k d (member l e ms)) (member l d ms) (member l e (place by_units k d ms)))
above_place_at Less m k l d e ms new all rest = (new, all)
above_place_at Equal m k l d e ms new all rest = all
above_place_at Greater m k l d e ms new all rest = (all.0, rest)

above_place : (m k : List ℕ) (d : Data) (ms : Members) → by_units m k ≡ Less → Above m ms → Above m (place by_units k d ms)
above_place m k d no_members new all = (new, tt)
above_place m k d (member l e ms) new all = above_place_at (by_units k l) m k l d e ms new all (above_place m k d ms new all.1)

rises_at : (o : Ordering) (k l : List ℕ) (d e : Data) (ms : Members) → by_units k l ≡ o → by_units k l ≢ Equal → Rises (texts_of (member l e ms)) → Rises (texts_of (place by_units k d ms))
    → Rises (texts_of (match_ordering o (member k d (member l e ms)) (member l d ms) (member l e (place by_units k d ms))))
unfolding IsStrictlySortedBy
rises_at Less k l d e ms is told up rest = ((is, above_both k l ms is up.0), up)
rises_at Equal k l d e ms is told up rest = absurd (told is)
rises_at Greater k l d e ms is told up rest = (above_place l k d ms (by_units_total.antisymm l k ∙ ap ordering_reverse is) up.0, rest)

rises : (k : List ℕ) (d : Data) (ms : Members) → Apart k ms → Rises (texts_of ms) → Rises (texts_of (place by_units k d ms))
unfolding IsStrictlySortedBy
rises k d no_members apart up = (tt, tt)
rises k d (member l e ms) apart up = rises_at (by_units k l) k l d e ms refl apart.0.1 up (rises k d ms apart.1 up.1)

-- ---- the text of the members, whatever their order

abbrev own_texts : Members → List Entry
own_texts no_members = []
own_texts (member k d ms) = (k, compact_text (by_names d)) ∷ own_texts ms

own_order : (ms : Members) → MembersApart ms → IsPermutation (own_texts ms) (texts_of (arranged_members by_units ms))
own_order no_members a = IsPermutation-refl _
own_order (member k d ms) a =
    IsPermutation-trans _ _ _ (IsPermutation-cons (k, compact_text (by_names d)) _ _ (own_order ms a.2)) (placed k (by_names d) (arranged_members by_units ms) (apart_arranged by_units k ms a.0))

own_rises : (ms : Members) → MembersApart ms → Rises (texts_of (arranged_members by_units ms))
unfolding IsStrictlySortedBy
own_rises no_members a = tt
own_rises (member k d ms) a = rises k (by_names d) (arranged_members by_units ms) (apart_arranged by_units k ms a.0) (own_rises ms a.2)

whole_text : (z : ℤ) → number_text (whole z) ≡ signed_decimal z
whole_text (pos n) = refl
whole_text (negsuc n) = refl

pub truth_compact : (b : Bool) → compact_text (boolean b) ≡ truth_text b
truth_compact true = refl
truth_compact false = refl

mutual
  -- it is a text of the value
  canonical_by_names : (d : Data) (t : List ℕ) → AreApart d → Canonical d t → Canonical d (compact_text (by_names d))
  canonical_by_names null t a is = refl
  canonical_by_names (boolean b) t a is = truth_compact b
  canonical_by_names (number n) t a is = (is.0, is.1, is.2, ap (λ o. number_text (whole_or n o)) is.1 ∙ whole_text is.0)
  canonical_by_names (string s) t a is = quoted-same s
  canonical_by_names (array ds) t a is = (item_texts (arranged_items by_units ds), items_by_names ds is.0 a is.1, array_compact (arranged_items by_units ds))
  canonical_by_names (object ms) t a is = (
    own_texts ms,
    members_by_names ms is.0 a is.1,
    record { order = texts_of (arranged_members by_units ms); same = own_order ms a; rises = own_rises ms a; text = object_compact (arranged_members by_units ms) },
  )

  items_by_names : (ds : Items) (ts : List (List ℕ)) → ItemsApart ds → CanonicalItems ds ts → CanonicalItems ds (item_texts (arranged_items by_units ds))
  items_by_names no_items ts a is = tt
  items_by_names (item d ds) [] a is = absurd is
  items_by_names (item d ds) (t ∷ ts) a is = (canonical_by_names d t a.0 is.0, items_by_names ds ts a.1 is.1)

  members_by_names : (ms : Members) (es : List Entry) → MembersApart ms → CanonicalMembers ms es → CanonicalMembers ms (own_texts ms)
  members_by_names no_members es a is = tt
  members_by_names (member k d ms) [] a is = absurd is
  members_by_names (member k d ms) (e ∷ es) a is = (refl, canonical_by_names d e.1 a.1 is.1, members_by_names ms es a.2 is.2)

pub by_names_text : (d : Data) (t : List ℕ) → AreApart d → Canonical d t → t ≡ compact_text (by_names d)
by_names_text d t a is = unique d t _ is (canonical_by_names d t a is)
