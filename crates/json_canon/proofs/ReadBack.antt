-- A canonical text parses to its value.
use Rattle.std.proofs.Common.{◌≡◌, ◌≢◌, ℕ, suc, ◌+◌, ◌<◌, ◌≤◌, ℤ, pos, negsuc, List, [], ◌∷◌, IsTrue, Ordering, Less, Equal, Greater, Option, Some, None, option_map, option_and_then, refl, sym, ap, subst, ◌∙◌, arith, append-nil}
use Rattle.std.specs.Ordering.{match_ordering}
use Rattle.std.specs.Prelude.{⊤, max, if◌then◌else◌}
use Rattle.json.specs.Json as json
use Rattle.json.specs.Lex.{tokens}
use Rattle.json.specs.Print.{IsNumber}
use Rattle.json.specs.Token.{Token}
use Rattle.json.specs.Tree as tree
use Rattle.json.specs.Tree.{json_tokens, HasNumbers, ItemsHaveNumbers, MembersHaveNumbers}
use Rattle.json.proofs.Found.{one_reading}
use Rattle.json.proofs.Nesting.{value-depth}
use Rattle.json.proofs.Printed.Decimals.{IsNumber-signed_decimal}
use Rattle.json.proofs.Printed.Tokens.{tokens-print}
use Rattle.json.proofs.Printed.Trees.{value-json_tokens, ArePrintable-json_tokens}
use Rattle.serde_json.specs.Data.{Num, Data, null, boolean, number, string, array, object, Items, no_items, item, Members, no_members, member, put, depth, items_depth, members_depth}
use Rattle.serde_json.specs.Find.{as_integer}
use Rattle.serde_json.specs.Read.{number_of, of_json, of_items, of_members, read, max_depth}
use Rattle.serde_json.specs.Written.{number_text, outline, items_outline, members_outline}
use Rattle.serde_json.proofs.Numbers.{number_of-decimal, number_of-negative}
use Rattle.serde_json.proofs.Texts.{print-outline}
use Rattle.json_values.specs.Places.{by_bytes}
use Rattle.json_events.specs.Canonical.{Canonical, CanonicalItems, CanonicalMembers, Entry, in_range}
use Rattle.json_events.specs.Refused.{refused, refused_items, refused_members, refused_by, first_of_two}
use Rattle.json_events.specs.Units.{by_units}
use Rattle.json_events.specs.declared.error.CanonError.{CanonError}
use Rattle.json_events.specs.declared.error.CanonError.TheVariants.{IntegerOutOfRange}
use Rattle.json_canon.specs.AsMaps.{whole, whole_or, as_maps}
use Rattle.json_canon.proofs.MemberOrders.{Order, place, arranged, arranged_items, arranged_members}
use Rattle.json_canon.proofs.Compact.{by_names, by_names_text}
use Rattle.json_canon.proofs.Maps.{Apart, AreApart, ItemsApart, MembersApart, IsTelling, by_bytes_tells, by_units_tells, apart_arranged, still_apart, again, taken, taken_all, maps_in_order}
use Rattle.json_canon.proofs.Texts.{small}

-- ---- numbers that parse to themselves

abbrev IsPlainNumber : Num → Type 0
IsPlainNumber n = (z : ℤ) × (n ≡ whole z) × IsTrue (in_range z)

abbrev mutual
  IsPlain : Data → Type 0
  IsPlain null = ⊤
  IsPlain (boolean b) = ⊤
  IsPlain (number n) = IsPlainNumber n
  IsPlain (string s) = ⊤
  IsPlain (array ds) = ArePlainItems ds
  IsPlain (object ms) = ArePlainMembers ms

  ArePlainItems : Items → Type 0
  ArePlainItems no_items = ⊤
  ArePlainItems (item d ds) = IsPlain d × ArePlainItems ds

  ArePlainMembers : Members → Type 0
  ArePlainMembers no_members = ⊤
  ArePlainMembers (member k d ms) = IsPlain d × ArePlainMembers ms

module _ (S : Order) where
  plain_place_at : (o : Ordering) (k l : List ℕ) (d e : Data) (ms : Members) → IsPlain d → ArePlainMembers (member l e ms) → ArePlainMembers (place S k d ms)
      → ArePlainMembers (match_ordering o (member k d (member l e ms)) (member l d ms) (member l e (place S k d ms)))
  plain_place_at Less k l d e ms one all rest = (one, all)
  plain_place_at Equal k l d e ms one all rest = (one, all.1)
  plain_place_at Greater k l d e ms one all rest = (all.0, rest)

  plain_place : (k : List ℕ) (d : Data) (ms : Members) → IsPlain d → ArePlainMembers ms → ArePlainMembers (place S k d ms)
  plain_place k d no_members one all = (one, tt)
  plain_place k d (member l e ms) one all = plain_place_at (S k l) k l d e ms one all (plain_place k d ms one all.1)

  mutual
    plain_arranged : (d : Data) (t : List ℕ) → Canonical d t → IsPlain (arranged S d)
    plain_arranged null t is = tt
    plain_arranged (boolean b) t is = tt
    plain_arranged (number n) t is = (is.0, ap (whole_or n) is.1, is.2)
    plain_arranged (string s) t is = tt
    plain_arranged (array ds) t is = plain_arranged_items ds is.0 is.1
    plain_arranged (object ms) t is = plain_arranged_members ms is.0 is.1

    plain_arranged_items : (ds : Items) (ts : List (List ℕ)) → CanonicalItems ds ts → ArePlainItems (arranged_items S ds)
    plain_arranged_items no_items ts is = tt
    plain_arranged_items (item d ds) [] is = absurd is
    plain_arranged_items (item d ds) (t ∷ ts) is = (plain_arranged d t is.0, plain_arranged_items ds ts is.1)

    plain_arranged_members : (ms : Members) (es : List Entry) → CanonicalMembers ms es → ArePlainMembers (arranged_members S ms)
    plain_arranged_members no_members es is = tt
    plain_arranged_members (member k d ms) [] is = absurd is
    plain_arranged_members (member k d ms) (e ∷ es) is = plain_place k (arranged S d) (arranged_members S ms) (plain_arranged d e.1 is.1) (plain_arranged_members ms es is.2)

whole_is_number : (z : ℤ) → IsTrue (in_range z) → IsNumber (number_text (whole z))
whole_is_number (pos n) is = IsNumber-signed_decimal (pos n) (small (pos n) is)
whole_is_number (negsuc n) is = IsNumber-signed_decimal (negsuc n) (small (negsuc n) is)

mutual
  has_numbers : (d : Data) → IsPlain d → HasNumbers (outline d)
  has_numbers null p = tt
  has_numbers (boolean b) p = tt
  has_numbers (number n) p = subst (λ m. IsNumber (number_text m)) (sym p.1) (whole_is_number p.0 p.2)
  has_numbers (string s) p = tt
  has_numbers (array ds) p = items_have_numbers ds p
  has_numbers (object ms) p = members_have_numbers ms p

  items_have_numbers : (ds : Items) → ArePlainItems ds → ItemsHaveNumbers (items_outline ds)
  items_have_numbers no_items p = tt
  items_have_numbers (item d ds) p = (has_numbers d p.0, items_have_numbers ds p.1)

  members_have_numbers : (ms : Members) → ArePlainMembers ms → MembersHaveNumbers (members_outline ms)
  members_have_numbers no_members p = tt
  members_have_numbers (member k d ms) p = (has_numbers d p.0, members_have_numbers ms p.1)

-- ---- such numbers are not refused

none_both : (a b : Option CanonError) → a ≡ None → b ≡ None → first_of_two a b ≡ None
none_both a b p q = ap (λ o. first_of_two o b) p ∙ q

whole_unrefused : (z : ℤ) → IsTrue (in_range z) → refused_by (as_integer (whole z)) ≡ None
whole_unrefused (pos n) is = ap (λ b. if b then None else Some IntegerOutOfRange) is
whole_unrefused (negsuc n) is = ap (λ b. if b then None else Some IntegerOutOfRange) is

mutual
  unrefused : (d : Data) → IsPlain d → refused d ≡ None
  unrefused null p = refl
  unrefused (boolean b) p = refl
  unrefused (number n) p = ap (λ m. refused_by (as_integer m)) p.1 ∙ whole_unrefused p.0 p.2
  unrefused (string s) p = refl
  unrefused (array ds) p = items_unrefused ds p
  unrefused (object ms) p = members_unrefused ms p

  items_unrefused : (ds : Items) → ArePlainItems ds → refused_items ds ≡ None
  items_unrefused no_items p = refl
  items_unrefused (item d ds) p = none_both _ _ (unrefused d p.0) (items_unrefused ds p.1)

  members_unrefused : (ms : Members) → ArePlainMembers ms → refused_members ms ≡ None
  members_unrefused no_members p = refl
  members_unrefused (member k d ms) p = none_both _ _ (unrefused d p.0) (members_unrefused ms p.1)

pub maps_unrefused : (d : Data) (t : List ℕ) → AreApart d → Canonical d t → refused (as_maps d) ≡ None
maps_unrefused d t a is = ap refused (maps_in_order d a) ∙ unrefused (arranged by_bytes d) (plain_arranged by_bytes d t is)

-- ---- what the JSON parses to

read_whole : (z : ℤ) → IsTrue (in_range z) → option_map number (number_of (number_text (whole z))) ≡ Some (number (whole_or (whole z) (as_integer (whole z))))
read_whole (pos n) is = let fits = small (pos n) is in ap (option_map number) (number_of-decimal n (omega (arith, fits)))
read_whole (negsuc n) is = let fits = small (negsuc n) is in ap (option_map number) (number_of-negative n (omega (arith, fits)))

mutual
  reads : (d : Data) → IsPlain d → AreApart d → of_json (outline d) ≡ Some (arranged by_bytes d)
  reads null p a = refl
  reads (boolean b) p a = refl
  reads (number n) p a = subst (λ m. option_map number (number_of (number_text m)) ≡ Some (number (whole_or m (as_integer m)))) (sym p.1) (read_whole p.0 p.2)
  reads (string s) p a = refl
  reads (array ds) p a = ap (option_map array) (reads_items ds p a)
  reads (object ms) p a = ap (option_map object) (reads_members ms no_members p a ∙ ap Some (taken_all ms a))

  reads_items : (ds : Items) → ArePlainItems ds → ItemsApart ds → of_items (items_outline ds) ≡ Some (arranged_items by_bytes ds)
  reads_items no_items p a = refl
  reads_items (item d ds) p a = rw (reads d p.0 a.0, reads_items ds p.1 a.1)

  reads_members : (ms found : Members) → ArePlainMembers ms → MembersApart ms → of_members (members_outline ms) found ≡ Some (taken ms found)
  reads_members no_members found p a = refl
  reads_members (member k d ms) found p a =
      ap (option_and_then (λ e. of_members (members_outline ms) (put k e found))) (reads d p.0 a.1) ∙ reads_members ms (put k (arranged by_bytes d) found) p.1 a.2

-- ---- depths

mutual
  outline_depth : (d : Data) → tree.depth (outline d) ≡ depth d
  outline_depth null = refl
  outline_depth (boolean b) = refl
  outline_depth (number n) = refl
  outline_depth (string s) = refl
  outline_depth (array ds) = ap suc (outline_items_depth ds)
  outline_depth (object ms) = ap suc (outline_members_depth ms)

  outline_items_depth : (ds : Items) → tree.items_depth (items_outline ds) ≡ items_depth ds
  outline_items_depth no_items = refl
  outline_items_depth (item d ds) = λ i. max (outline_depth d i) (outline_items_depth ds i)

  outline_members_depth : (ms : Members) → tree.members_depth (members_outline ms) ≡ members_depth ms
  outline_members_depth no_members = refl
  outline_members_depth (member k d ms) = λ i. max (outline_depth d i) (outline_members_depth ms i)

module _ {S : Order} (telling : IsTelling S) where
  place_depth_at : (o : Ordering) (k l : List ℕ) (d e : Data) (ms : Members) → S k l ≡ o → S k l ≢ Equal → members_depth (place S k d ms) ≡ max (depth d) (members_depth ms)
      → members_depth (match_ordering o (member k d (member l e ms)) (member l d ms) (member l e (place S k d ms))) ≡ max (depth d) (max (depth e) (members_depth ms))
  place_depth_at Less k l d e ms is told more = refl
  place_depth_at Equal k l d e ms is told more = absurd (told is)
  place_depth_at Greater k l d e ms is told more = ap (max (depth e)) more ∙ omega arith

  place_depth : (k : List ℕ) (d : Data) (ms : Members) → Apart k ms → members_depth (place S k d ms) ≡ max (depth d) (members_depth ms)
  place_depth k d no_members apart = refl
  place_depth k d (member l e ms) apart = place_depth_at (S k l) k l d e ms refl (telling.tells k l apart.0) (place_depth k d ms apart.1)

  mutual
    arranged_depth : (d : Data) → AreApart d → depth (arranged S d) ≡ depth d
    arranged_depth null a = refl
    arranged_depth (boolean b) a = refl
    arranged_depth (number n) a = refl
    arranged_depth (string s) a = refl
    arranged_depth (array ds) a = ap suc (arranged_items_depth ds a)
    arranged_depth (object ms) a = ap suc (arranged_members_depth ms a)

    arranged_items_depth : (ds : Items) → ItemsApart ds → items_depth (arranged_items S ds) ≡ items_depth ds
    arranged_items_depth no_items a = refl
    arranged_items_depth (item d ds) a = λ i. max (arranged_depth d a.0 i) (arranged_items_depth ds a.1 i)

    arranged_members_depth : (ms : Members) → MembersApart ms → members_depth (arranged_members S ms) ≡ members_depth ms
    arranged_members_depth no_members a = refl
    arranged_members_depth (member k d ms) a =
        place_depth k (arranged S d) (arranged_members S ms) (apart_arranged S k ms a.0) ∙ (λ i. max (arranged_depth d a.1 i) (arranged_members_depth ms a.2 i))

-- ---- the text of a value as JSON

-- the JSON that the text is
pub record Spells (d : Data) (t : List ℕ) : Type 0 where
  pub json : json.Json
  pub tokens : tokens t ≡ json_tokens json
  pub reads : of_json json ≡ Some (as_maps d)
  pub deep : tree.depth json ≡ depth d

pub spells : (d : Data) (t : List ℕ) → AreApart d → Canonical d t → Spells d t
spells d t a is =
    let named = by_names d in
    let plain = plain_arranged by_units d t is in
    let apart = still_apart by_units_tells d a in
    record {
      json = outline named;
      tokens = ap tokens (by_names_text d t a is ∙ sym (print-outline named)) ∙ tokens-print _ (ArePrintable-json_tokens (outline named) (has_numbers named plain));
      reads = reads named plain apart ∙ ap Some (again by_bytes_tells by_units_tells d a ∙ sym (maps_in_order d a));
      deep = outline_depth named ∙ arranged_depth by_units_tells d a;
    }

some_same : {A : Type 0} (x y : A) → Some x ≡ Some y → x ≡ y
some_same x y e = cc

-- the whole text is this JSON, at any sufficient depth
value_is : (n : ℕ) (d : Data) (t : List ℕ) (s : Spells d t) → tree.depth s.json ≤ n → json.value n (tokens t) ≡ Some (s.json, [])
value_is n d t s enough = ap (json.value n) (s.tokens ∙ sym (append-nil _)) ∙ value-json_tokens s.json n [] enough

-- values with one text are equal as maps
pub one_value : (d e : Data) (t : List ℕ) → Spells d t → Spells e t → as_maps d ≡ as_maps e
one_value d e t s u =
    let n = tree.depth s.json + tree.depth u.json in
    let both = some_same _ _ (sym (value_is n d t s (omega arith)) ∙ value_is n e t u (omega arith)) in
    some_same _ _ (sym s.reads ∙ ap (λ p. of_json p.0) both ∙ u.reads)

pub read_shallow : (d : Data) (t : List ℕ) → Spells d t → depth d ≤ max_depth → read t ≡ Some (as_maps d)
read_shallow d t s shallow =
    let deep = s.deep in
    ap (λ o. option_and_then of_json (option_and_then (λ p. json.if_last p.0 p.1) o)) (value_is max_depth d t s (omega (arith, deep))) ∙ s.reads

none_deep : (d : Data) (t : List ℕ) (s : Spells d t) → max_depth < depth d → (o : Option (json.Json × List Token)) → json.value max_depth (tokens t) ≡ o → o ≡ None
none_deep d t s deep None is = refl
none_deep d t s deep (Some found) is =
    let full = value_is (tree.depth s.json) d t s (omega arith) in
    let same = some_same _ _ (one_reading max_depth (tree.depth s.json) (tokens t) found (s.json, []) is full) in
    let low = value-depth max_depth (tokens t) found.1 found.0 is in
    let at : tree.depth found.0 ≡ depth d = ap (λ p. tree.depth p.0) same ∙ s.deep in
    absurd (omega (arith, low, at))

pub read_deep : (d : Data) (t : List ℕ) → Spells d t → max_depth < depth d → read t ≡ None
read_deep d t s deep = ap (λ o. option_and_then of_json (option_and_then (λ p. json.if_last p.0 p.1) o)) (none_deep d t s deep _ refl)
