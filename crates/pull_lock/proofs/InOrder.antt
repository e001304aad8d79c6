-- The members of each object that is read are in the order of their names.
use Rattle.std.proofs.Common.{◌≡◌, ℕ, T, Bool, true, false, List, [], ◌∷◌, Option, Some, None, option_map, option_and_then, Ordering, Less, Equal, Greater, refl, sym, ap, subst, ◌∙◌}
use Rattle.std.specs.Prelude.{⊤, if◌then◌else◌}
use Rattle.std.specs.Str.{is_utf8}
use Rattle.std.specs.FinMap.Entries.{put as put_entry, find, same_entries, by_order}
use Rattle.std.specs.FinMap.{slice_cmp-IsAntisymmetric, nat_cmp-IsAntisymmetric}
use Rattle.std.specs.Cmp.Lexicographic.{nat_list_cmp_total, slice_cmp}
use Rattle.std.specs.Ordering.{nat_cmp, match_ordering}
use Rattle.json.specs.Json as json
use Rattle.json.specs.Lex.{tokens}
use Rattle.serde_json.specs.Data.{Data, null, boolean, number, string, array, object, Items, no_items, item, Members, no_members, member, put}
use Rattle.serde_json.specs.Find.{get_member}
use Rattle.serde_json.specs.Read.{number_of, of_json, of_items, of_members, read, max_depth}
use Rattle.json_values.specs.JsonText.{json_of, is_plain, plain_json_of}
use Rattle.json_values.specs.Places.{by_bytes, Sorted}
use Rattle.json_values.proofs.Maps.{Entries, sorted_put}

-- the members as entries
abbrev pub pairs : Members → Entries Data
pairs no_members = []
pairs (member k d ms) = (k, d) ∷ pairs ms

abbrev mutual
  -- the names of each object are ascending
  pub InOrder : Data → Type 0
  InOrder null = ⊤
  InOrder (boolean b) = ⊤
  InOrder (number n) = ⊤
  InOrder (string s) = ⊤
  InOrder (array ds) = ItemsInOrder ds
  InOrder (object ms) = Sorted (pairs ms) × MembersInOrder ms

  pub ItemsInOrder : Items → Type 0
  ItemsInOrder no_items = ⊤
  ItemsInOrder (item d ds) = InOrder d × ItemsInOrder ds

  pub MembersInOrder : Members → Type 0
  MembersInOrder no_members = ⊤
  MembersInOrder (member k d ms) = InOrder d × MembersInOrder ms

-- ---- members that are inserted

pairs_at : (o : Ordering) (k l : List ℕ) (d e : Data) (ms : Members) → pairs (put k d ms) ≡ put_entry by_bytes k d (pairs ms)
    → pairs (match_ordering o (member k d (member l e ms)) (member l d ms) (member l e (put k d ms))) ≡ by_order o ((k, d) ∷ (l, e) ∷ pairs ms) ((l, d) ∷ pairs ms) ((l, e) ∷ put_entry by_bytes k d (pairs ms))
pairs_at Less k l d e ms more = refl
pairs_at Equal k l d e ms more = refl
pairs_at Greater k l d e ms more = ap (λ (es : Entries Data). (l, e) ∷ es) more

pairs_put : (k : List ℕ) (d : Data) (ms : Members) → pairs (put k d ms) ≡ put_entry by_bytes k d (pairs ms)
pairs_put k d no_members = refl
pairs_put k d (member l e ms) = pairs_at (by_bytes k l) k l d e ms (pairs_put k d ms)

put_sorted : (k : List ℕ) (d : Data) (ms : Members) → Sorted (pairs ms) → Sorted (pairs (put k d ms))
put_sorted k d ms h = subst Sorted (sym (pairs_put k d ms)) (sorted_put (pairs ms) h k d)

members_at : (o : Ordering) (k l : List ℕ) (d e : Data) (ms : Members) → InOrder d → InOrder e → MembersInOrder ms → MembersInOrder (put k d ms)
    → MembersInOrder (match_ordering o (member k d (member l e ms)) (member l d ms) (member l e (put k d ms)))
members_at Less k l d e ms one other rest more = (one, (other, rest))
members_at Equal k l d e ms one other rest more = (one, rest)
members_at Greater k l d e ms one other rest more = (other, more)

members_put : (k : List ℕ) (d : Data) (ms : Members) → InOrder d → MembersInOrder ms → MembersInOrder (put k d ms)
members_put k d no_members one rest = (one, tt)
members_put k d (member l e ms) one rest = members_at (by_bytes k l) k l d e ms one rest.0 rest.1 (members_put k d ms one rest.1)

-- ---- a value that is read

mapped : {A B : Type 0} (f : A → B) (o : Option A) (b : B) → option_map f o ≡ Some b → (a : A) × (o ≡ Some a) × (f a ≡ b)
mapped f None b is = absurd (cc is)
mapped f (Some a) b is = (a, refl, cc is)

followed : {A B : Type 0} (f : A → Option B) (o : Option A) (b : B) → option_and_then f o ≡ Some b → (a : A) × (o ≡ Some a) × (f a ≡ Some b)
followed f None b is = absurd (cc is)
followed f (Some a) b is = (a, refl, is)

some_is : {A : Type 0} (a b : A) → (let o : Option A = Some a in o) ≡ Some b → a ≡ b
some_is a b is = cc is

mutual
  value_in_order : (j : json.Json) (d : Data) → of_json j ≡ Some d → InOrder d
  value_in_order json.null d is = subst InOrder (some_is null d is) tt
  value_in_order (json.boolean b) d is = subst InOrder (some_is (boolean b) d is) tt
  value_in_order (json.number s) d is = let m = mapped number (number_of s) d is in subst InOrder m.2 tt
  value_in_order (json.string s) d is = subst InOrder (some_is (string s) d is) tt
  value_in_order (json.array js) d is = let m = mapped array (of_items js) d is in subst InOrder m.2 (items_in_order js m.0 m.1)
  value_in_order (json.object ms) d is =
      let m = mapped object (of_members ms no_members) d is in
      subst InOrder m.2 (members_in_order ms no_members m.0 tt tt m.1)

  items_in_order : (js : json.Items) (ds : Items) → of_items js ≡ Some ds → ItemsInOrder ds
  items_in_order json.no_items ds is = subst ItemsInOrder (some_is no_items ds is) tt
  items_in_order (json.item j js) ds is =
      let one = followed (λ d. option_map (item d) (of_items js)) (of_json j) ds is in
      let more = mapped (item one.0) (of_items js) ds one.2 in
      subst ItemsInOrder more.2 (value_in_order j one.0 one.1, items_in_order js more.0 more.1)

  members_in_order : (ms : json.Members) (found ds : Members) → Sorted (pairs found) → MembersInOrder found → of_members ms found ≡ Some ds → Sorted (pairs ds) × MembersInOrder ds
  members_in_order json.no_members found ds sorted each is = let same : found ≡ ds = some_is found ds is in (subst (λ (m : Members). Sorted (pairs m)) same sorted, subst MembersInOrder same each)
  members_in_order (json.member k j ms) found ds sorted each is =
      let one = followed (λ d. of_members ms (put k d found)) (of_json j) ds is in
      members_in_order ms (put k one.0 found) ds (put_sorted k one.0 found sorted) (members_put k one.0 found (value_in_order j one.0 one.1) each) one.2

read_in_order : (text : List ℕ) (d : Data) → read text ≡ Some d → InOrder d
read_in_order text d is =
    let json_is = followed of_json (option_and_then (λ p. json.if_last p.0 p.1) (json.value max_depth (tokens text))) d is in
    value_in_order json_is.0 d json_is.2

json_in_order : (b : Bool) (text : List ℕ) (d : Data) → (if b then read text else None) ≡ Some d → InOrder d
json_in_order true text d is = read_in_order text d is
json_in_order false text d is = absurd (cc is)

plain_is : (b : Bool) (d e : Data) → (if b then Some d else None) ≡ Some e → d ≡ e
plain_is true d e is = some_is d e is
plain_is false d e is = absurd (cc is)

-- the value of a JSON text
pub plain_in_order : (bytes : List ℕ) (d : Data) → plain_json_of bytes ≡ Some d → InOrder d
plain_in_order bytes d is =
    let whole = followed (λ (e : Data). if is_plain e then Some e else None) (json_of bytes) d is in
    subst InOrder (plain_is (is_plain whole.0) whole.0 d whole.2) (json_in_order (is_utf8 bytes) bytes whole.0 whole.1)

-- ---- equal members under all names

find_at : (o : Ordering) (q k : List ℕ) (d : Data) (ms : Members) → by_bytes q k ≡ o → get_member q ms ≡ find by_bytes q (pairs ms)
    → match_ordering o (get_member q ms) (Some d) (get_member q ms) ≡ find by_bytes q ((k, d) ∷ pairs ms)
find_at Less q k d ms is more = rw is more
find_at Equal q k d ms is more = rw is refl
find_at Greater q k d ms is more = rw is more

found_is : (q : List ℕ) (ms : Members) → get_member q ms ≡ find by_bytes q (pairs ms)
found_is q no_members = refl
found_is q (member k d ms) = find_at (by_bytes q k) q k d ms refl (found_is q ms)

same_first : (p q : List ℕ × Data) (es fs : Entries Data) → p ∷ es ≡ q ∷ fs → (p ≡ q) × (es ≡ fs)
same_first p q es fs is = (cc is, cc is)

of_pairs : (ms ns : Members) → pairs ms ≡ pairs ns → ms ≡ ns
of_pairs no_members no_members is = refl
of_pairs no_members (member l e ns) is = absurd (cc is)
of_pairs (member k d ms) no_members is = absurd (cc is)
of_pairs (member k d ms) (member l e ns) is =
    let parts = same_first (k, d) (l, e) (pairs ms) (pairs ns) is in
    λ i. member ((parts.0 i).0) ((parts.0 i).1) (of_pairs ms ns parts.1 i)

pub same_members : (ms ns : Members) → Sorted (pairs ms) → Sorted (pairs ns) → ((q : List ℕ) → get_member q ms ≡ get_member q ns) → ms ≡ ns
same_members ms ns h k each =
    of_pairs ms ns (same_entries by_bytes nat_list_cmp_total (slice_cmp-IsAntisymmetric nat_cmp-IsAntisymmetric) (pairs ms) (pairs ns) h k
    (λ q. sym (found_is q ms) ∙ each q ∙ found_is q ns))
