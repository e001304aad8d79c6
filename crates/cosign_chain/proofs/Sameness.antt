-- The tests of sameness: values that pass are equal, and a value without floats is the same as itself.
use Rattle.std.proofs.Common.{◌≡◌, ◌&&◌, ◌||◌, ℕ, Bool, true, false, List, bytes_eq, Option, Some, refl, ap, nat_cmp, Ordering, Less, Equal, Greater}
use Rattle.std.specs.Ordering.{match_ordering}
use Rattle.std.specs.Cmp.Lexicographic.{slice_cmp}
use Rattle.std.proofs.lemmas.Slice.Eq.{bytes_eq-Decides}
use Rattle.std.proofs.lemmas.Bool.Decides.{Decides-eqb, Decides-int_eq}
use Rattle.serde_json.specs.Data.{Num, unsigned, negative, float, Data, null, boolean, number, string, array, object}
use Rattle.serde_json.specs.Data.{Items, no_items, item, Members, no_members, member}
use Rattle.serde_json.specs.Find.{is_float, get, get_member}
use Rattle.serde_json.specs.Written.{has_float, items_have_float, members_have_float}
use Rattle.cosign_chain.specs.Same.{same_truth, same_number, same_data, same_items, same_members}

pub split : (a b : Bool) → (a && b) ≡ true → (a ≡ true) × (b ≡ true)
split true b h = (refl, h)
split false b h = absurd (cc h)

pub joined : (a b : Bool) → a ≡ true → b ≡ true → (a && b) ≡ true
joined true b h i = i
joined false b h i = absurd (cc h)

neither : (a b : Bool) → (a || b) ≡ false → (a ≡ false) × (b ≡ false)
neither true b h = absurd (cc h)
neither false b h = (refl, h)

-- ---- values that pass are equal

truth_is : (a b : Bool) → same_truth a b ≡ true → a ≡ b
truth_is true true h = refl
truth_is true false h = absurd (cc h)
truth_is false true h = absurd (cc h)
truth_is false false h = refl

number_is : (m n : Num) → same_number m n ≡ true → m ≡ n
number_is (unsigned m) (unsigned n) h = ap unsigned ((Decides-eqb m n).0 h)
number_is (unsigned m) (negative n) h = absurd (cc h)
number_is (unsigned m) (float y) h = absurd (cc h)
number_is (negative m) (unsigned n) h = absurd (cc h)
number_is (negative m) (negative n) h = ap negative ((Decides-int_eq m n).0 h)
number_is (negative m) (float y) h = absurd (cc h)
number_is (float x) n h = absurd (cc h)

mutual
  pub data_is : (a b : Data) → same_data a b ≡ true → a ≡ b
  data_is null null h = refl
  data_is null (boolean b2) h = absurd (cc h)
  data_is null (number n2) h = absurd (cc h)
  data_is null (string s2) h = absurd (cc h)
  data_is null (array x2) h = absurd (cc h)
  data_is null (object x2) h = absurd (cc h)
  data_is (boolean b) null h = absurd (cc h)
  data_is (boolean b) (boolean b2) h = ap boolean (truth_is b b2 h)
  data_is (boolean b) (number n2) h = absurd (cc h)
  data_is (boolean b) (string s2) h = absurd (cc h)
  data_is (boolean b) (array x2) h = absurd (cc h)
  data_is (boolean b) (object x2) h = absurd (cc h)
  data_is (number n) null h = absurd (cc h)
  data_is (number n) (boolean b2) h = absurd (cc h)
  data_is (number n) (number n2) h = ap number (number_is n n2 h)
  data_is (number n) (string s2) h = absurd (cc h)
  data_is (number n) (array x2) h = absurd (cc h)
  data_is (number n) (object x2) h = absurd (cc h)
  data_is (string s) null h = absurd (cc h)
  data_is (string s) (boolean b2) h = absurd (cc h)
  data_is (string s) (number n2) h = absurd (cc h)
  data_is (string s) (string s2) h = ap string ((bytes_eq-Decides s s2).0 h)
  data_is (string s) (array x2) h = absurd (cc h)
  data_is (string s) (object x2) h = absurd (cc h)
  data_is (array x) null h = absurd (cc h)
  data_is (array x) (boolean b2) h = absurd (cc h)
  data_is (array x) (number n2) h = absurd (cc h)
  data_is (array x) (string s2) h = absurd (cc h)
  data_is (array x) (array x2) h = ap array (items_are x x2 h)
  data_is (array x) (object x2) h = absurd (cc h)
  data_is (object x) null h = absurd (cc h)
  data_is (object x) (boolean b2) h = absurd (cc h)
  data_is (object x) (number n2) h = absurd (cc h)
  data_is (object x) (string s2) h = absurd (cc h)
  data_is (object x) (array x2) h = absurd (cc h)
  data_is (object x) (object x2) h = ap object (members_are x x2 h)

  items_are : (a b : Items) → same_items a b ≡ true → a ≡ b
  items_are no_items no_items h = refl
  items_are no_items (item y ys) h = absurd (cc h)
  items_are (item x xs) no_items h = absurd (cc h)
  items_are (item x xs) (item y ys) h = let parts = split (same_data x y) (same_items xs ys) h in
      rw (data_is x y parts.0, items_are xs ys parts.1) refl

  members_are : (a b : Members) → same_members a b ≡ true → a ≡ b
  members_are no_members no_members h = refl
  members_are no_members (member l y ys) h = absurd (cc h)
  members_are (member k x xs) no_members h = absurd (cc h)
  members_are (member k x xs) (member l y ys) h =
      let parts = split (bytes_eq k l && same_data x y) (same_members xs ys) h in
      let front = split (bytes_eq k l) (same_data x y) parts.0 in
      rw ((bytes_eq-Decides k l).0 front.0, data_is x y front.1, members_are xs ys parts.1) refl

-- ---- a value without floats is the same as itself

truth_same : (b : Bool) → same_truth b b ≡ true
truth_same true = refl
truth_same false = refl

number_same : (n : Num) → is_float n ≡ false → same_number n n ≡ true
number_same (unsigned n) h = (Decides-eqb n n).1 refl
number_same (negative z) h = (Decides-int_eq z z).1 refl
number_same (float x) h = absurd (cc h)

mutual
  pub data_same : (d : Data) → has_float d ≡ false → same_data d d ≡ true
  data_same null h = refl
  data_same (boolean b) h = truth_same b
  data_same (number n) h = number_same n h
  data_same (string s) h = (bytes_eq-Decides s s).1 refl
  data_same (array xs) h = items_same xs h
  data_same (object xs) h = members_same xs h

  items_same : (xs : Items) → items_have_float xs ≡ false → same_items xs xs ≡ true
  items_same no_items h = refl
  items_same (item x xs) h = let parts = neither (has_float x) (items_have_float xs) h in
      joined (same_data x x) (same_items xs xs) (data_same x parts.0) (items_same xs parts.1)

  members_same : (xs : Members) → members_have_float xs ≡ false → same_members xs xs ≡ true
  members_same no_members h = refl
  members_same (member k x xs) h = let parts = neither (has_float x) (members_have_float xs) h in
      joined (bytes_eq k k && same_data x x) (same_members xs xs)
      (joined (bytes_eq k k) (same_data x x) ((bytes_eq-Decides k k).1 refl) (data_same x parts.0))
      (members_same xs parts.1)

-- ---- a member of a value without floats has none

some_is : {A : Type 0} (a b : A) → (let o : Option A = Some a in o) ≡ Some b → a ≡ b
some_is a b is = cc is

at_name : (o : Ordering) (e x : Data) (found : Option Data) → has_float e ≡ false
    → (found ≡ Some x → has_float x ≡ false) → match_ordering o found (Some e) found ≡ Some x → has_float x ≡ false
at_name Less e x found plain rest is = rest is
at_name Equal e x found plain rest is = rw (← some_is e x is) plain
at_name Greater e x found plain rest is = rest is

member_plain : (k : List ℕ) (ms : Members) (x : Data) → members_have_float ms ≡ false → get_member k ms ≡ Some x
    → has_float x ≡ false
member_plain k no_members x h is = absurd (cc is)
member_plain k (member l e ms) x h is = let parts = neither (has_float e) (members_have_float ms) h in
    at_name (slice_cmp nat_cmp k l) e x (get_member k ms) parts.0 (member_plain k ms x parts.1) is

pub get_plain : (k : List ℕ) (d x : Data) → has_float d ≡ false → get k d ≡ Some x → has_float x ≡ false
get_plain k null x h is = absurd (cc is)
get_plain k (boolean b) x h is = absurd (cc is)
get_plain k (number n) x h is = absurd (cc is)
get_plain k (string s) x h is = absurd (cc is)
get_plain k (array xs) x h is = absurd (cc is)
get_plain k (object ms) x h is = member_plain k ms x h is
