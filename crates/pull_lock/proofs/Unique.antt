-- A value that is read as a lock is the value of that lock.
use Rattle.std.proofs.Common.{◌≡◌, ℕ, T, Bool, true, false, ◌&&◌, ◌||◌, List, [], ◌∷◌, ◌++◌, map, codes, bytes_eq, Option, Some, None, Ordering, Less, Equal, Greater, refl, sym, ap, subst, ◌∙◌}
use Rattle.std.specs.Prelude.{⊤, ◌==◌, ◌^◌, if◌then◌else◌, nat_lt}
use Rattle.std.specs.FinMap.{FinMap, empty, entries, from_sorted, entries-from_sorted, insert, slice_cmp-IsAntisymmetric, nat_cmp-IsAntisymmetric}
use Rattle.std.specs.FinMap.Entries.{below_all, is_sorted}
use Rattle.std.specs.Ordering.{nat_cmp, match_ordering, is_lt}
use Rattle.std.specs.List.{list_any}
use Rattle.std.specs.Str.{chars}
use Rattle.std.proofs.lemmas.Bool.{eqb-true}
use Rattle.std.proofs.lemmas.Slice.Eq.{bytes_eq-Decides}
use Rattle.serde_json.specs.Data.{Data, Num, unsigned, negative, float, null, boolean, number, string, array, object, Items, no_items, item, Members, no_members, member}
use Rattle.serde_json.specs.Find.{get, get_member, as_number, as_u64}
use Rattle.serde_json.specs.View.{items_of}
use Rattle.json_values.specs.JsonText.{plain_json_of}
use Rattle.json_values.specs.Places.{by_bytes, Sorted}
use Rattle.json_values.specs.Writing.{listed, members_list, map_written}
use Rattle.json_values.proofs.Maps.{Entries}
use Rattle.json_tables.specs.Reading.{◌>>=◌, text_of, below, u64_of, u8_of, items_by, list_of, members_by, map_of}
use Rattle.json_tables.specs.Member.{required}
use Rattle.json_tables.specs.Objects.{only, names_within}
use Rattle.cosign_parts.specs.declared.layer.LayerKind.{LayerKind}
use Rattle.cosign_parts.specs.declared.layer.LayerKind.TheVariants.{Payload, Bundle}
use Rattle.pull_lock.specs.Files.{kind_text, kind_named, kind_of, version_of, signature_names, entry_names, signature_data, entry_data, lock_data, signature_of, entry_of, lock_of}
use Rattle.pull_lock.specs.declared.lock.Lock.{Lock}
use Rattle.pull_lock.specs.declared.lock.LockEntry.{LockEntry}
use Rattle.pull_lock.specs.declared.lock.LockedSignature.{LockedSignature}
use Rattle.pull_lock.proofs.InOrder.{pairs, InOrder, ItemsInOrder, MembersInOrder, plain_in_order, same_members}
use Rattle.pull_lock.proofs.Values.{notes_read}

some_is : {A : Type 0} (a b : A) → (let o : Option A = Some a in o) ≡ Some b → a ≡ b
some_is a b is = cc is

-- what was found, and what was read of it
record Found {A B : Type 0} (o : Option A) (f : A → Option B) (y : B) : Type 0 where
  value : A
  is : o ≡ Some value
  after : f value ≡ Some y

found : {A B : Type 0} (o : Option A) (f : A → Option B) (y : B) → (o >>= f) ≡ Some y → Found o f y
found None f y is = absurd (cc is)
found (Some x) f y is = record { value = x; is = refl; after = is }

-- ---- objects with exactly these names

split : (a b : Bool) → (a && b) ≡ true → (a ≡ true) × (b ≡ true)
split true b h = (refl, h)
split false b h = absurd (cc h)

either_false : (a b : Bool) → (a || b) ≡ false → (a ≡ false) × (b ≡ false)
either_false true b h = absurd (cc h)
either_false false b h = (refl, h)

absent_at : (o : Ordering) (names : List (List ℕ)) (q k : List ℕ) (d : Data) (ms : Members) → by_bytes q k ≡ o → list_any (bytes_eq k) names ≡ true → list_any (bytes_eq q) names ≡ false → get_member q ms ≡ None
    → match_ordering o (get_member q ms) (Some d) (get_member q ms) ≡ None
absent_at Less names q k d ms is here other rest = rest
absent_at Equal names q k d ms is here other rest =
    let same : q ≡ k = slice_cmp-IsAntisymmetric nat_cmp-IsAntisymmetric q k is in
    absurd (cc (sym (subst (λ (n : List ℕ). list_any (bytes_eq n) names ≡ true) (sym same) here) ∙ other))
absent_at Greater names q k d ms is here other rest = rest

-- a name that is not among these names no member of such an object
absent : (names : List (List ℕ)) (q : List ℕ) (ms : Members) → names_within names ms ≡ true → list_any (bytes_eq q) names ≡ false → get_member q ms ≡ None
absent names q no_members h other = refl
absent names q (member k d ms) h other =
    let parts = split (list_any (bytes_eq k) names) (names_within names ms) h in
    absent_at (by_bytes q k) names q k d ms refl parts.0 other (absent names q ms parts.1 other)

-- the same member under each of these names
abbrev Each : List (List ℕ) → Members → Members → Type 0
Each [] ms ns = ⊤
Each (name ∷ names) ms ns = (get_member name ms ≡ get_member name ns) × Each names ms ns

present_at : (b : Bool) (q name : List ℕ) (names : List (List ℕ)) (ms ns : Members) → bytes_eq q name ≡ b → get_member name ms ≡ get_member name ns
    → (list_any (bytes_eq q) names ≡ true → get_member q ms ≡ get_member q ns) → (b || list_any (bytes_eq q) names) ≡ true → get_member q ms ≡ get_member q ns
present_at true q name names ms ns is here rest h = subst (λ (n : List ℕ). get_member n ms ≡ get_member n ns) (sym ((bytes_eq-Decides q name).0 is)) here
present_at false q name names ms ns is here rest h = rest h

present : (names : List (List ℕ)) (q : List ℕ) (ms ns : Members) → Each names ms ns → list_any (bytes_eq q) names ≡ true → get_member q ms ≡ get_member q ns
present [] q ms ns each h = absurd (cc h)
present (name ∷ names) q ms ns each h = present_at (bytes_eq q name) q name names ms ns refl each.0 (present names q ms ns each.1) h

same_under : (b : Bool) (names : List (List ℕ)) (q : List ℕ) (ms ns : Members) → list_any (bytes_eq q) names ≡ b → names_within names ms ≡ true → names_within names ns ≡ true → Each names ms ns → get_member q ms ≡ get_member q ns
same_under true names q ms ns is h k each = present names q ms ns each is
same_under false names q ms ns is h k each = absent names q ms h is ∙ sym (absent names q ns k is)

same_object : (names : List (List ℕ)) (ms ns : Members) → Sorted (pairs ms) → Sorted (pairs ns) → names_within names ms ≡ true → names_within names ns ≡ true → Each names ms ns → ms ≡ ns
same_object names ms ns a b h k each = same_members ms ns a b (λ q. same_under (list_any (bytes_eq q) names) names q ms ns refl h k each)

-- an object with no other names
record IsObject (names : List (List ℕ)) (d : Data) : Type 0 where
  members : Members
  is : d ≡ object members
  within : names_within names members ≡ true

passes : (b : Bool) (u : ⊤) → (if b then Some tt else None) ≡ Some u → b ≡ true
passes true u is = refl
passes false u is = absurd (cc is)

an_object : (names : List (List ℕ)) (d : Data) (u : ⊤) → only names d ≡ Some u → IsObject names d
an_object names null u is = absurd (cc is)
an_object names (boolean b) u is = absurd (cc is)
an_object names (number n) u is = absurd (cc is)
an_object names (string s) u is = absurd (cc is)
an_object names (array ds) u is = absurd (cc is)
an_object names (object ms) u is = record { members = ms; is = refl; within = passes (names_within names ms) u is }

inside_at : (o : Ordering) (q k : List ℕ) (d x : Data) (ms : Members) → InOrder d → (get_member q ms ≡ Some x → InOrder x) → match_ordering o (get_member q ms) (Some d) (get_member q ms) ≡ Some x → InOrder x
inside_at Less q k d x ms one rest is = rest is
inside_at Equal q k d x ms one rest is = subst InOrder (some_is d x is) one
inside_at Greater q k d x ms one rest is = rest is

inside : (q : List ℕ) (x : Data) (ms : Members) → MembersInOrder ms → get_member q ms ≡ Some x → InOrder x
inside q x no_members h is = absurd (cc is)
inside q x (member k d ms) h is = inside_at (by_bytes q k) q k d x ms h.0 (inside q x ms h.1) is

-- a member of the object, and what is read of it
record HasMember {B : Type 0} (name : List ℕ) (ms : Members) (f : Data → Option B) (y : B) : Type 0 where
  value : Data
  is : get_member name ms ≡ Some value
  reads : f value ≡ Some y

-- ---- what each kind of value is read from

text_is : (d : Data) (t : List ℕ) → text_of d ≡ Some t → d ≡ string t
text_is null t is = absurd (cc is)
text_is (boolean b) t is = absurd (cc is)
text_is (number n) t is = absurd (cc is)
text_is (string s) t is = ap string (some_is s t is)
text_is (array ds) t is = absurd (cc is)
text_is (object ms) t is = absurd (cc is)

texts_are : (items : Items) (ts : List (List ℕ)) → items_by text_of items ≡ Some ts → items ≡ items_of (map string ts)
texts_are no_items ts is = ap (λ (us : List (List ℕ)). items_of (map string us)) (some_is [] ts is)
texts_are (item d ds) ts is =
    let one = found (text_of d) _ ts is in
    let more = found (items_by text_of ds) _ ts one.after in
    (λ i. item (text_is d one.value one.is i) (texts_are ds more.value more.is i)) ∙ ap (λ (us : List (List ℕ)). items_of (map string us)) (some_is (one.value ∷ more.value) ts more.after)

list_is : (d : Data) (ts : List (List ℕ)) → list_of text_of d ≡ Some ts → d ≡ listed string ts
list_is null ts is = absurd (cc is)
list_is (boolean b) ts is = absurd (cc is)
list_is (number n) ts is = absurd (cc is)
list_is (string s) ts is = absurd (cc is)
list_is (array ds) ts is = ap array (texts_are ds ts is)
list_is (object ms) ts is = absurd (cc is)

-- members that are texts
record AreNotes (ms : Members) : Type 0 where
  es : Entries (List ℕ)
  is : ms ≡ members_list string es

notes_are : (before m : FinMap by_bytes (List ℕ)) (ms : Members) → members_by text_of before ms ≡ Some m → AreNotes ms
notes_are before m no_members is = record { es = []; is = refl }
notes_are before m (member k d ms) is =
    let one = found (text_of d) _ m is in
    let more = notes_are (insert before k one.value) m ms one.after in
    record { es = (k, one.value) ∷ more.es; is = λ i. member k (text_is d one.value one.is i) (more.is i) }

below_same : (k : List ℕ) (es : Entries (List ℕ)) → below_all by_bytes k (pairs (members_list string es)) ≡ below_all by_bytes k es
below_same k [] = refl
below_same k (e ∷ es) = ap (λ b. is_lt (by_bytes k e.0) && b) (below_same k es)

sorted_same : (es : Entries (List ℕ)) → is_sorted by_bytes (pairs (members_list string es)) ≡ is_sorted by_bytes es
sorted_same [] = refl
sorted_same (e ∷ es) = λ i. below_same e.0 es i && sorted_same es i

map_is : (d : Data) (m : FinMap by_bytes (List ℕ)) → InOrder d → map_of text_of d ≡ Some m → d ≡ map_written string m
map_is null m h is = absurd (cc is)
map_is (boolean b) m h is = absurd (cc is)
map_is (number n) m h is = absurd (cc is)
map_is (string s) m h is = absurd (cc is)
map_is (array ds) m h is = absurd (cc is)
map_is (object ms) m h is =
    let notes = notes_are empty m ms is in
    let sorted : Sorted notes.es = subst T (sorted_same notes.es) (subst (λ (n : Members). Sorted (pairs n)) notes.is h.0) in
    let own : FinMap by_bytes (List ℕ) = from_sorted {R = by_bytes} notes.es in
    let written : object ms ≡ map_written string own = ap object (notes.is ∙ ap (members_list string) (sym (entries-from_sorted by_bytes notes.es sorted))) in
    let same : own ≡ m = some_is own m (sym (notes_read own).reads ∙ ap (map_of text_of) (sym written) ∙ is) in
    written ∙ ap (map_written string) same

kind_at : (b c : Bool) (text : List ℕ) (kind : LayerKind) → bytes_eq text (codes "payload") ≡ b → bytes_eq text (codes "bundle") ≡ c
    → (if b then Some Payload else (if c then Some Bundle else None)) ≡ Some kind → text ≡ kind_text kind
kind_at true c text kind is other h = (bytes_eq-Decides text (codes "payload")).0 is ∙ ap kind_text (some_is Payload kind h)
kind_at false true text kind is other h = (bytes_eq-Decides text (codes "bundle")).0 other ∙ ap kind_text (some_is Bundle kind h)
kind_at false false text kind is other h = absurd (cc h)

kind_is : (d : Data) (kind : LayerKind) → kind_of d ≡ Some kind → d ≡ string (kind_text kind)
kind_is d kind is =
    let one = found (text_of d) kind_named kind is in
    text_is d one.value one.is ∙ ap string (kind_at (bytes_eq one.value (codes "payload")) (bytes_eq one.value (codes "bundle")) one.value kind refl refl one.after)

number_is : (d : Data) (n : Num) → as_number d ≡ Some n → d ≡ number n
number_is null n is = absurd (cc is)
number_is (boolean b) n is = absurd (cc is)
number_is (number m) n is = ap number (some_is m n is)
number_is (string s) n is = absurd (cc is)
number_is (array ds) n is = absurd (cc is)
number_is (object ms) n is = absurd (cc is)

unsigned_is : (n : Num) (k : ℕ) → as_u64 n ≡ Some k → n ≡ unsigned k
unsigned_is (unsigned m) k is = ap unsigned (some_is m k is)
unsigned_is (negative z) k is = absurd (cc is)
unsigned_is (float x) k is = absurd (cc is)

below_is : (b : Bool) (n k : ℕ) → (if b then Some n else None) ≡ Some k → n ≡ k
below_is true n k is = some_is n k is
below_is false n k is = absurd (cc is)

one_is : (b : Bool) (n k : ℕ) → (n == 1) ≡ b → (if b then Some n else None) ≡ Some k → n ≡ 1
one_is true n k is h = eqb-true n 1 is
one_is false n k is h = absurd (cc h)

version_is : (d : Data) (version : ℕ) → version_of d ≡ Some version → d ≡ number (unsigned 1)
version_is d version is =
    let small = found (u8_of d) _ version is in
    let wide = found (u64_of d) (below (2 ^ 8)) small.value small.is in
    let num = found (as_number d) as_u64 wide.value wide.is in
    let same : wide.value ≡ small.value = below_is (nat_lt wide.value (2 ^ 8)) wide.value small.value wide.after in
    let one : small.value ≡ 1 = one_is (small.value == 1) small.value version refl small.after in
    number_is d num.value num.is ∙ ap number (unsigned_is num.value wide.value num.after ∙ ap unsigned (same ∙ one))

-- ---- a member by its name

has_member : {B : Type 0} (name : List ℕ) (d : Data) (ms : Members) (f : Data → Option B) (y : B) → d ≡ object ms → required f name d ≡ Some y → HasMember name ms f y
has_member name d ms f y same is =
    let one = found (get name d) f y is in
    record { value = one.value; is = ap (get name) (sym same) ∙ one.is; reads = one.after }

-- ---- the whole values

signature_unique : (d : Data) (s : LockedSignature) → InOrder d → signature_of d ≡ Some s → d ≡ signature_data s
unfolding signature_of signature_data chars
signature_unique d s order is =
    let known = found (only signature_names d) _ s is in
    let kind = found (required kind_of (codes "kind") d) _ s known.after in
    let notes = found (required (map_of text_of) (codes "annotations") d) _ s kind.after in
    let content = found (required text_of (codes "content") d) _ s notes.after in
    let named = found (required text_of (codes "oci_digest") d) _ s content.after in
    let ob = an_object signature_names d known.value known.is in
    let sorted : InOrder (object ob.members) = subst InOrder ob.is order in
    let k = has_member (codes "kind") d ob.members kind_of kind.value ob.is kind.is in
    let a = has_member (codes "annotations") d ob.members (map_of text_of) notes.value ob.is notes.is in
    let c = has_member (codes "content") d ob.members text_of content.value ob.is content.is in
    let n = has_member (codes "oci_digest") d ob.members text_of named.value ob.is named.is in
    let own : LockedSignature = record { kind = kind.value; oci_digest = named.value; content = content.value; annotations = notes.value } in
    ob.is
    ∙ ap object (same_object signature_names ob.members (
    member (codes "annotations") (map_written string notes.value) (
    member (codes "content") (string content.value) (
    member (codes "kind") (string (kind_text kind.value)) (
    member (codes "oci_digest") (string named.value) no_members))))
    sorted.0 tt ob.within refl (
      a.is ∙ ap Some (map_is a.value notes.value (inside (codes "annotations") a.value ob.members sorted.1 a.is) a.reads),
      (
        c.is ∙ ap Some (text_is c.value content.value c.reads),
        (
          k.is ∙ ap Some (kind_is k.value kind.value k.reads),
          (n.is ∙ ap Some (text_is n.value named.value n.reads), tt),
        ),
      ),
    ))
    ∙ ap signature_data (some_is own s named.after)

entry_unique : (d : Data) (e : LockEntry) → InOrder d → entry_of d ≡ Some e → d ≡ entry_data e
unfolding entry_of entry_data chars
entry_unique d e order is =
    let known = found (only entry_names d) _ e is in
    let accepted = found (required (list_of text_of) (codes "accepted") d) _ e known.after in
    let digest = found (required text_of (codes "digest") d) _ e accepted.after in
    let first = found (required text_of (codes "first") d) _ e digest.after in
    let image = found (required text_of (codes "image") d) _ e first.after in
    let manifest = found (required text_of (codes "manifest") d) _ e image.after in
    let named = found (required text_of (codes "manifest_digest") d) _ e manifest.after in
    let signature = found (required signature_of (codes "signature") d) _ e named.after in
    let ob = an_object entry_names d known.value known.is in
    let sorted : InOrder (object ob.members) = subst InOrder ob.is order in
    let a = has_member (codes "accepted") d ob.members (list_of text_of) accepted.value ob.is accepted.is in
    let g = has_member (codes "digest") d ob.members text_of digest.value ob.is digest.is in
    let f = has_member (codes "first") d ob.members text_of first.value ob.is first.is in
    let i = has_member (codes "image") d ob.members text_of image.value ob.is image.is in
    let m = has_member (codes "manifest") d ob.members text_of manifest.value ob.is manifest.is in
    let n = has_member (codes "manifest_digest") d ob.members text_of named.value ob.is named.is in
    let s = has_member (codes "signature") d ob.members signature_of signature.value ob.is signature.is in
    let own : LockEntry = record {
      image = image.value;
      accepted = accepted.value;
      digest = digest.value;
      first = first.value;
      manifest_digest = named.value;
      manifest = manifest.value;
      signature = signature.value;
    } in
    ob.is
    ∙ ap object (same_object entry_names ob.members (
    member (codes "accepted") (listed string accepted.value) (
    member (codes "digest") (string digest.value) (
    member (codes "first") (string first.value) (
    member (codes "image") (string image.value) (
    member (codes "manifest") (string manifest.value) (
    member (codes "manifest_digest") (string named.value) (
    member (codes "signature") (signature_data signature.value) no_members)))))))
    sorted.0 tt ob.within refl (
      a.is ∙ ap Some (list_is a.value accepted.value a.reads),
      (
        g.is ∙ ap Some (text_is g.value digest.value g.reads),
        (
          f.is ∙ ap Some (text_is f.value first.value f.reads),
          (
            i.is ∙ ap Some (text_is i.value image.value i.reads),
            (
              m.is ∙ ap Some (text_is m.value manifest.value m.reads),
              (
                n.is ∙ ap Some (text_is n.value named.value n.reads),
                (s.is ∙ ap Some (signature_unique s.value signature.value (inside (codes "signature") s.value ob.members sorted.1 s.is) s.reads), tt),
              ),
            ),
          ),
        ),
      ),
    ))
    ∙ ap entry_data (some_is own e signature.after)

entries_are : (items : Items) (es : List LockEntry) → ItemsInOrder items → items_by entry_of items ≡ Some es → items ≡ items_of (map entry_data es)
entries_are no_items es order is = ap (λ (fs : List LockEntry). items_of (map entry_data fs)) (some_is [] es is)
entries_are (item d ds) es order is =
    let one = found (entry_of d) _ es is in
    let more = found (items_by entry_of ds) _ es one.after in
    (λ i. item (entry_unique d one.value order.0 one.is i) (entries_are ds more.value order.1 more.is i)) ∙ ap (λ (fs : List LockEntry). items_of (map entry_data fs)) (some_is (one.value ∷ more.value) es more.after)

entries_is : (d : Data) (es : List LockEntry) → InOrder d → list_of entry_of d ≡ Some es → d ≡ listed entry_data es
entries_is null es order is = absurd (cc is)
entries_is (boolean b) es order is = absurd (cc is)
entries_is (number n) es order is = absurd (cc is)
entries_is (string s) es order is = absurd (cc is)
entries_is (array ds) es order is = ap array (entries_are ds es order is)
entries_is (object ms) es order is = absurd (cc is)

lock_unique : (d : Data) (lock : Lock) → InOrder d → lock_of d ≡ Some lock → d ≡ lock_data lock
unfolding lock_of lock_data chars
lock_unique d lock order is =
    let known = found (only (codes "entries" ∷ codes "version" ∷ []) d) _ lock is in
    let version = found (required version_of (codes "version") d) _ lock known.after in
    let entries = found (required (list_of entry_of) (codes "entries") d) _ lock version.after in
    let ob = an_object (codes "entries" ∷ codes "version" ∷ []) d known.value known.is in
    let sorted : InOrder (object ob.members) = subst InOrder ob.is order in
    let v = has_member (codes "version") d ob.members version_of version.value ob.is version.is in
    let e = has_member (codes "entries") d ob.members (list_of entry_of) entries.value ob.is entries.is in
    let own : Lock = record { entries = entries.value } in
    ob.is
    ∙ ap object (same_object (codes "entries" ∷ codes "version" ∷ []) ob.members (
    member (codes "entries") (listed entry_data entries.value) (
    member (codes "version") (number (unsigned 1)) no_members))
    sorted.0 tt ob.within refl (
      e.is ∙ ap Some (entries_is e.value entries.value (inside (codes "entries") e.value ob.members sorted.1 e.is) e.reads),
      (v.is ∙ ap Some (version_is v.value version.value v.reads), tt),
    ))
    ∙ ap lock_data (some_is own lock entries.after)

-- the value of a JSON text that is read as a lock
pub value_is : (bytes : List ℕ) (d : Data) (lock : Lock) → plain_json_of bytes ≡ Some d → lock_of d ≡ Some lock → d ≡ lock_data lock
value_is bytes d lock json is = lock_unique d lock (plain_in_order bytes d json) is
