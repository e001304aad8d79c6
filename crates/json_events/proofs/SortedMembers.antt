-- Members inserted one after another in the order of their names' UTF-16 units.
use Rattle.std.proofs.Common.{◌≡◌, ℕ, List, [], ◌∷◌, ◌++◌, map, Bool, true, false, ◌||◌, refl, sym, ap, subst, ◌∙◌, IsUtf8, Ordering, Less, Equal, Greater}
use Rattle.std.specs.BTreeSet.{insert_key}
use Rattle.std.specs.Cmp.Lexicographic.{slice_cmp, texts_ties, same_text, nat_list_cmp_total, nat_list_eq_equiv}
use Rattle.std.specs.List.{AllByRecursion, list_any}
use Rattle.std.specs.List.Sorted.{IsPermutation, IsStrictlySortedBy}
use Rattle.std.specs.Ordering.{nat_cmp, is_eq, match_ordering, ordering_reverse}
use Rattle.std.specs.Str.{bytes_eq}
use Rattle.std.proofs.lemmas.List.Sorted.{IsPermutation-refl, IsPermutation-cons, IsPermutation-trans, IsPermutation-to_front, IsPermutation-append, IsPermutation-map, list_any-IsPermutation}
use Rattle.json_events.specs.declared.property.JsonProperty.{JsonProperty}
use Rattle.json_events.specs.Canonical.{Entry, Rises}
use Rattle.json_events.specs.Members.{property, Keeps, has_name}
use Rattle.json_events.specs.Units.{units, by_units}
use Rattle.std.specs.Cmp.{IsTotalOrder, both_ways}
use Rattle.std.proofs.lemmas.Cmp.{on_total}
use Rattle.json_events.proofs.Utf16.{same_units}

abbrev pub by_key : JsonProperty → JsonProperty → Ordering
by_key p q = slice_cmp nat_cmp p.sorting_key q.sorting_key

abbrev by_name : Entry → Entry → Ordering
by_name a b = by_units a.0 b.0

abbrev pub placed : List Entry → Entry → List Entry
placed = insert_key by_name

map_placed_at : (o : Ordering) (e x : Entry) (xs : List Entry) → insert_key by_key (map property xs) (property e) ≡ map property (placed xs e)
    → match_ordering o (property e ∷ property x ∷ map property xs) (property x ∷ map property xs) (property x ∷ insert_key by_key (map property xs) (property e))
    ≡ map property (match_ordering o (e ∷ x ∷ xs) (x ∷ xs) (x ∷ placed xs e))
map_placed_at Less e x xs rest = refl
map_placed_at Equal e x xs rest = refl
map_placed_at Greater e x xs rest = ap (λ r. property x ∷ r) rest

pub map_placed : (xs : List Entry) (e : Entry) → insert_key by_key (map property xs) (property e) ≡ map property (placed xs e)
map_placed [] e = refl
map_placed (x ∷ xs) e = map_placed_at (by_name e x) e x xs (map_placed xs e)

two_swapped : (e x : Entry) (xs : List Entry) → IsPermutation (e ∷ x ∷ xs) (x ∷ e ∷ xs)
two_swapped e x xs = IsPermutation-append (e ∷ x ∷ []) (x ∷ e ∷ []) xs xs (IsPermutation-to_front (e ∷ []) x) (IsPermutation-refl xs)

placed_moves_at : (o : Ordering) (e x : Entry) (xs : List Entry) → (is_eq o ≡ false) → IsPermutation (e ∷ xs) (placed xs e)
    → IsPermutation (e ∷ x ∷ xs) (match_ordering o (e ∷ x ∷ xs) (x ∷ xs) (x ∷ placed xs e))
placed_moves_at Less e x xs apart rest = IsPermutation-refl (e ∷ x ∷ xs)
placed_moves_at Equal e x xs apart rest = cc
placed_moves_at Greater e x xs apart rest = IsPermutation-trans _ _ _ (two_swapped e x xs) (IsPermutation-cons x _ _ rest)

either : (a b : Bool) → (a || b) ≡ false → (a ≡ false) × (b ≡ false)
either true b e = cc
either false b e = (refl, e)

-- inserting a name that ties with none only moves the members
pub placed_moves : (xs : List Entry) (e : Entry) → list_any (λ x. is_eq (by_name e x)) xs ≡ false → IsPermutation (e ∷ xs) (placed xs e)
placed_moves [] e apart = IsPermutation-refl (e ∷ [])
placed_moves (x ∷ xs) e apart =
    let parts = either _ _ apart in
    placed_moves_at (by_name e x) e x xs parts.0 (placed_moves xs e parts.1)

-- units tie if and only if the names are equal
tied : (a b : List ℕ) → IsUtf8 a → IsUtf8 b → is_eq (by_units a b) ≡ bytes_eq a b
tied a b text other = sym (texts_ties (units a) (units b)) ∙ both_ways (bytes_eq (units a) (units b)) (bytes_eq a b)
    (λ e. subst (λ y. bytes_eq a y ≡ true) (same_units a b text other (same_text (units a) (units b) (sym e))) (nat_list_eq_equiv.refl a))
    (λ e. subst (λ y. bytes_eq (units a) (units y) ≡ true) (same_text a b (sym e)) (nat_list_eq_equiv.refl (units a)))

tied_name : (name : List ℕ) (x : List ℕ) (es : List Entry) → IsUtf8 name → AllByRecursion (λ e. IsUtf8 e.0) es
    → list_any (λ p. is_eq (by_key (property (name, x)) p)) (map property es) ≡ has_name name es
tied_name name x [] text all = refl
tied_name name x (e ∷ es) text all = ap (λ b. b || list_any (λ p. is_eq (by_key (property (name, x)) p)) (map property es)) (tied name e.0 text all.0) ∙ ap (λ b. bytes_eq name e.0 || b) (tied_name name x es text all.1)

rises_at : (a : Entry) (xs : List Entry) → AllByRecursion (λ q. by_key (property a) q ≡ Less) (map property xs) → AllByRecursion (λ b. by_units a.0 b ≡ Less) (map (λ e. e.0) xs)
rises_at a [] all = tt
rises_at a (x ∷ xs) all = (all.0, rises_at a xs all.1)

pub rises_from : (xs : List Entry) → IsStrictlySortedBy by_key (map property xs) → Rises xs
unfolding IsStrictlySortedBy
rises_from [] up = tt
rises_from (x ∷ xs) up = (rises_at x xs up.0, rises_from xs up.1)

all_more : (es : List Entry) (e : Entry) → AllByRecursion (λ x. IsUtf8 x.0) es → IsUtf8 e.0 → AllByRecursion (λ x. IsUtf8 x.0) (es ++ e ∷ [])
all_more [] e all one = (one, tt)
all_more (x ∷ es) e all one = (all.0, all_more es e all.1 one)

pub keeps_none : Keeps [] []
unfolding IsStrictlySortedBy
keeps_none = record { order = []; same = IsPermutation-refl []; rises = tt; is = refl; texts = tt }

-- whether the set has the name
pub kept_name : (kept : List JsonProperty) (es : List Entry) (name x : List ℕ) → IsUtf8 name → Keeps kept es → list_any (λ p. is_eq (by_key (property (name, x)) p)) kept ≡ has_name name es
kept_name kept es name x text keeps =
    let test = λ (p : JsonProperty). is_eq (by_key (property (name, x)) p) in
    ap (list_any test) keeps.is
    ∙ sym (list_any-IsPermutation test (map property es) (map property keeps.order) (IsPermutation-map property es keeps.order keeps.same))
    ∙ tied_name name x es text keeps.texts

any_map : (test : JsonProperty → Bool) (xs : List Entry) → list_any test (map property xs) ≡ list_any (λ e. test (property e)) xs
any_map test [] = refl
any_map test (x ∷ xs) = ap (λ b. test (property x) || b) (any_map test xs)

pub keeps_more : (old new : List JsonProperty) (es : List Entry) (name x : List ℕ) → IsUtf8 name → Keeps old es → has_name name es ≡ false
    → new ≡ insert_key by_key old (property (name, x)) → IsStrictlySortedBy by_key new → Keeps new (es ++ (name, x) ∷ [])
keeps_more old new es name x text keeps absent is up =
    let order = placed keeps.order (name, x) in
    let made : new ≡ map property order = is ∙ ap (λ k. insert_key by_key k (property (name, x))) keeps.is ∙ map_placed keeps.order (name, x) in
    let test = λ (p : JsonProperty). is_eq (by_key (property (name, x)) p) in
    let apart : list_any (λ e. test (property e)) keeps.order ≡ false = sym (any_map test keeps.order) ∙ ap (list_any test) (sym keeps.is) ∙ kept_name old es name x text keeps ∙ absent in
    record {
      order = order;
      same = IsPermutation-trans _ _ _ (IsPermutation-to_front es (name, x)) (IsPermutation-trans _ _ _ (IsPermutation-cons (name, x) _ _ keeps.same) (placed_moves keeps.order (name, x) apart));
      rises = rises_from order (subst (IsStrictlySortedBy by_key) made up);
      is = made;
      texts = all_more es (name, x) keeps.texts text;
    }

by_key_total : IsTotalOrder by_key
by_key_total = on_total (λ p. p.sorting_key) nat_list_cmp_total

below_both : (p x : JsonProperty) (xs : List JsonProperty) → by_key p x ≡ Less → AllByRecursion (λ y. by_key x y ≡ Less) xs → AllByRecursion (λ y. by_key p y ≡ Less) xs
below_both p x [] less all = tt
below_both p x (y ∷ ys) less all = (by_key_total.trans p x y less all.0, below_both p x ys less all.1)

below_insert_at : (o : Ordering) (x p y : JsonProperty) (ys : List JsonProperty) → by_key x p ≡ Less → by_key x y ≡ Less → AllByRecursion (λ z. by_key x z ≡ Less) ys → AllByRecursion (λ z. by_key x z ≡ Less) (insert_key by_key ys p)
    → AllByRecursion (λ z. by_key x z ≡ Less) (match_ordering o (p ∷ y ∷ ys) (y ∷ ys) (y ∷ insert_key by_key ys p))
below_insert_at Less x p y ys new first all rest = (new, (first, all))
below_insert_at Equal x p y ys new first all rest = (first, all)
below_insert_at Greater x p y ys new first all rest = (first, rest)

below_insert : (x p : JsonProperty) (ys : List JsonProperty) → by_key x p ≡ Less → AllByRecursion (λ z. by_key x z ≡ Less) ys → AllByRecursion (λ z. by_key x z ≡ Less) (insert_key by_key ys p)
below_insert x p [] new all = (new, tt)
below_insert x p (y ∷ ys) new all = below_insert_at (by_key p y) x p y ys new all.0 all.1 (below_insert x p ys new all.1)

insert_sorted_at : (o : Ordering) (p x : JsonProperty) (xs : List JsonProperty) → by_key p x ≡ o → is_eq o ≡ false → IsStrictlySortedBy by_key (x ∷ xs) → IsStrictlySortedBy by_key (insert_key by_key xs p)
    → IsStrictlySortedBy by_key (match_ordering o (p ∷ x ∷ xs) (x ∷ xs) (x ∷ insert_key by_key xs p))
unfolding IsStrictlySortedBy
insert_sorted_at Less p x xs is apart up rest = ((is, below_both p x xs is up.0), up)
insert_sorted_at Equal p x xs is apart up rest = cc
insert_sorted_at Greater p x xs is apart up rest = (below_insert x p xs (by_key_total.antisymm x p ∙ ap ordering_reverse is) up.0, rest)

-- inserting a key that ties with none keeps the order
pub insert_sorted : (xs : List JsonProperty) (p : JsonProperty) → list_any (λ q. is_eq (by_key p q)) xs ≡ false → IsStrictlySortedBy by_key xs → IsStrictlySortedBy by_key (insert_key by_key xs p)
unfolding IsStrictlySortedBy
insert_sorted [] p apart up = (tt, tt)
insert_sorted (x ∷ xs) p apart up = let parts = either _ _ apart in insert_sorted_at (by_key p x) p x xs refl parts.0 up (insert_sorted xs p parts.1 up.1)
