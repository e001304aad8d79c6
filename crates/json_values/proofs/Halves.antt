-- Binary search for a name among sorted entries: the step at the middle entry.
use Rattle.std.proofs.Common.{◌≡◌, ℕ, zero, suc, ◌+◌, ◌/◌, ◌<◌, ◌≤◌, Bool, true, false, cond, ◌&&◌, ◌==◌, T, List, [], ◌∷◌, ◌++◌, length, get_or, take, drop, Some, None, Result, Ok, Err, Ordering, Less, Equal, Greater, refl, sym, ap, subst, ◌∙◌, arith, drop-cons, add-one, length-drop}
use Rattle.std.proofs.lemmas.List.{take-append-drop, length-take-le}
use Rattle.std.specs.FinMap.Entries.{below_all, find}
use Rattle.std.specs.Ordering.{match_ordering, ordering_reverse, is_lt, is_eq}
use Rattle.std.proofs.lemmas.Cmp.{nat_list_cmp_total}
use Rattle.json_values.specs.Places.{place_of, later, by_bytes, Sorted}
use Rattle.json_values.proofs.Maps.{shifted, Entries, found_later, gap_later}

false_is_not_true : false ≡ true → ⊥
false_is_not_true p = cc

both : (a b : Bool) → T a → T b → T (a && b)
both true b p q = q
both false b p q = p

first : (a b : Bool) → T (a && b) → T a
first true b p = tt
first false b p = p

second : (a b : Bool) → T (a && b) → T b
second true b p = p
second false b p = absurd p

less : (o : Ordering) → T (is_lt o) → o ≡ Less
less Less p = refl
less Equal p = absurd p
less Greater p = absurd p

below_front : {V : Type 0} (n : List ℕ) (xs ys : Entries V) → T (below_all by_bytes n (xs ++ ys)) → T (below_all by_bytes n xs)
below_front n [] ys h = tt
below_front n (e ∷ xs) ys h = both _ _ (first _ _ h) (below_front n xs ys (second _ _ h))

below_at : {V : Type 0} (n : List ℕ) (xs : Entries V) (x : List ℕ × V) (ys : Entries V) → T (below_all by_bytes n (xs ++ x ∷ ys)) → by_bytes n x.0 ≡ Less
below_at n [] x ys h = less _ (first _ _ h)
below_at n (e ∷ xs) x ys h = below_at n xs x ys (second _ _ h)

sorted_front : {V : Type 0} (xs ys : Entries V) → Sorted (xs ++ ys) → Sorted xs
sorted_front [] ys h = tt
sorted_front (e ∷ xs) ys h = both _ _ (below_front e.0 xs ys (first _ _ h)) (sorted_front xs ys (second _ _ h))

sorted_back : {V : Type 0} (xs : Entries V) (x : List ℕ × V) (ys : Entries V) → Sorted (xs ++ x ∷ ys) → Sorted ys
sorted_back [] x ys h = second _ _ h
sorted_back (e ∷ xs) x ys h = sorted_back xs x ys (second _ _ h)

-- a name equal to x or greater is greater than every name that is less than x
past_equal : (k x e : List ℕ) → by_bytes e x ≡ Less → by_bytes k x ≡ Equal → by_bytes k e ≡ Greater
past_equal k x e before is =
    nat_list_cmp_total.congr k x e is ∙ nat_list_cmp_total.antisymm x e ∙ ap ordering_reverse before

past_greater : (k x e : List ℕ) → by_bytes e x ≡ Less → by_bytes k x ≡ Greater → by_bytes k e ≡ Greater
past_greater k x e before is =
    let after = nat_list_cmp_total.antisymm x k ∙ ap ordering_reverse is in
    nat_list_cmp_total.antisymm k e ∙ ap ordering_reverse (nat_list_cmp_total.trans e x k before after)

one_later : (r : Result ℕ ℕ) → later r ≡ shifted 1 r
one_later (Ok i) = let e : suc i ≡ 1 + i = omega arith in ap Ok e
one_later (Err i) = let e : suc i ≡ 1 + i = omega arith in ap Err e

later_shifted : (n : ℕ) (r : Result ℕ ℕ) → later (shifted (n + 1) r) ≡ shifted (suc n + 1) r
later_shifted n (Ok i) = let e : suc ((n + 1) + i) ≡ (suc n + 1) + i = omega arith in ap Ok e
later_shifted n (Err i) = let e : suc ((n + 1) + i) ≡ (suc n + 1) + i = omega arith in ap Err e

shifted_twice : (b n : ℕ) (r : Result ℕ ℕ) → shifted b (shifted n r) ≡ shifted (b + n) r
shifted_twice b n (Ok i) = let e : b + (n + i) ≡ (b + n) + i = omega arith in ap Ok e
shifted_twice b n (Err i) = let e : b + (n + i) ≡ (b + n) + i = omega arith in ap Err e

place_less : {V : Type 0} (k : List ℕ) (xs : Entries V) (x : List ℕ × V) (ys : Entries V) → by_bytes k x.0 ≡ Less → place_of k (xs ++ x ∷ ys) ≡ place_of k xs
place_less k [] x ys is = ap (λ o. match_ordering o (Err 0) (Ok 0) (later (place_of k ys))) is
place_less k (e ∷ xs) x ys is = ap (λ r. match_ordering (by_bytes k e.0) (Err 0) (Ok 0) (later r)) (place_less k xs x ys is)

place_equal : {V : Type 0} (k : List ℕ) (xs : Entries V) (x : List ℕ × V) (ys : Entries V) → Sorted (xs ++ x ∷ ys) → by_bytes k x.0 ≡ Equal → place_of k (xs ++ x ∷ ys) ≡ Ok (length xs)
place_equal k [] x ys h is = ap (λ o. match_ordering o (Err 0) (Ok 0) (later (place_of k ys))) is
place_equal k (e ∷ xs) x ys h is =
    ap (λ o. match_ordering o (Err 0) (Ok 0) (later (place_of k (xs ++ x ∷ ys)))) (past_equal k x.0 e.0 (below_at e.0 xs x ys (first _ _ h)) is)
    ∙ ap later (place_equal k xs x ys (second _ _ h) is)

place_greater : {V : Type 0} (k : List ℕ) (xs : Entries V) (x : List ℕ × V) (ys : Entries V) → Sorted (xs ++ x ∷ ys) → by_bytes k x.0 ≡ Greater → place_of k (xs ++ x ∷ ys) ≡ shifted (length xs + 1) (place_of k ys)
place_greater k [] x ys h is = ap (λ o. match_ordering o (Err 0) (Ok 0) (later (place_of k ys))) is ∙ one_later (place_of k ys)
place_greater k (e ∷ xs) x ys h is =
    ap (λ o. match_ordering o (Err 0) (Ok 0) (later (place_of k (xs ++ x ∷ ys)))) (past_greater k x.0 e.0 (below_at e.0 xs x ys (first _ _ h)) is)
    ∙ ap later (place_greater k xs x ys (second _ _ h) is) ∙ later_shifted (length xs) (place_of k ys)

-- the entries split around the entry at index m
around : {V : Type 0} (es : Entries V) (m : ℕ) (x : List ℕ × V) → m < length es → x ≡ get_or es m x → es ≡ take m es ++ x ∷ drop (m + 1) es
around es m x h is =
    sym (take-append-drop m es)
    ∙ ap (λ r. take m es ++ r) (drop-cons es m x h ∙ ap (λ y. y ∷ drop (suc m) es) (sym is) ∙ ap (λ n. x ∷ drop n es) (sym (add-one m)))

pub sorted_before : {V : Type 0} (es : Entries V) (m : ℕ) (x : List ℕ × V) → m < length es → x ≡ get_or es m x → Sorted es → Sorted (take m es)
sorted_before es m x h is sorted = sorted_front (take m es) _ (subst Sorted (around es m x h is) sorted)

pub sorted_after : {V : Type 0} (es : Entries V) (m : ℕ) (x : List ℕ × V) → m < length es → x ≡ get_or es m x → Sorted es → Sorted (drop (m + 1) es)
sorted_after es m x h is sorted = sorted_back (take m es) x _ (subst Sorted (around es m x h is) sorted)

short_front : {V : Type 0} (es : Entries V) (m : ℕ) → m < length es → length (take m es) ≡ m
short_front es m h = length-take-le m es (omega arith)

pub place_before : {V : Type 0} (k : List ℕ) (es : Entries V) (m : ℕ) (x : List ℕ × V) → m < length es → x ≡ get_or es m x → by_bytes k x.0 ≡ Less → place_of k es ≡ place_of k (take m es)
place_before k es m x h is order = ap (place_of k) (around es m x h is) ∙ place_less k (take m es) x _ order

pub place_here : {V : Type 0} (k : List ℕ) (es : Entries V) (m : ℕ) (x : List ℕ × V) → m < length es → x ≡ get_or es m x → Sorted es → by_bytes k x.0 ≡ Equal → place_of k es ≡ Ok m
place_here k es m x h is sorted order =
    ap (place_of k) (around es m x h is) ∙ place_equal k (take m es) x _ (subst Sorted (around es m x h is) sorted) order
    ∙ ap Ok (short_front es m h)

pub place_after : {V : Type 0} (k : List ℕ) (es : Entries V) (m : ℕ) (x : List ℕ × V) → m < length es → x ≡ get_or es m x → Sorted es → by_bytes k x.0 ≡ Greater → place_of k es ≡ shifted (m + 1) (place_of k (drop (m + 1) es))
place_after k es m x h is sorted order =
    ap (place_of k) (around es m x h is) ∙ place_greater k (take m es) x _ (subst Sorted (around es m x h is) sorted) order
    ∙ ap (λ n. shifted (n + 1) (place_of k (drop (m + 1) es))) (short_front es m h)

-- the index in the left part, offset by b entries
pub left_before : {V : Type 0} (k : List ℕ) (r : Result ℕ ℕ) (b : ℕ) (es : Entries V) (m : ℕ) (x : List ℕ × V) → r ≡ shifted b (place_of k es) → m < length es → x ≡ get_or es m x → by_bytes k x.0 ≡ Less → r ≡ shifted b (place_of k (take m es))
left_before k r b es m x so_far h is order = so_far ∙ ap (shifted b) (place_before k es m x h is order)

pub left_here : {V : Type 0} (k : List ℕ) (r : Result ℕ ℕ) (b : ℕ) (es : Entries V) (m : ℕ) (x : List ℕ × V) → r ≡ shifted b (place_of k es) → m < length es → x ≡ get_or es m x → Sorted es → by_bytes k x.0 ≡ Equal → r ≡ Ok (b + m)
left_here k r b es m x so_far h is sorted order = so_far ∙ ap (shifted b) (place_here k es m x h is sorted order)

pub left_after : {V : Type 0} (k : List ℕ) (r : Result ℕ ℕ) (b : ℕ) (es : Entries V) (m : ℕ) (x : List ℕ × V) → r ≡ shifted b (place_of k es) → m < length es → x ≡ get_or es m x → Sorted es → by_bytes k x.0 ≡ Greater → r ≡ shifted (b + (m + 1)) (place_of k (drop (m + 1) es))
left_after k r b es m x so_far h is sorted order =
    so_far ∙ ap (shifted b) (place_after k es m x h is sorted order) ∙ shifted_twice b (m + 1) (place_of k (drop (m + 1) es))

pub left_nothing : {V : Type 0} (k : List ℕ) (r : Result ℕ ℕ) (b : ℕ) (es : Entries V) → r ≡ shifted b (place_of k es) → length es ≡ 0 → r ≡ Err b
left_nothing k r b [] so_far none = so_far ∙ (let e : b + 0 ≡ b = omega arith in ap Err e)
left_nothing k r b (e ∷ es) so_far none = absurd (omega arith)

-- the result of the search at the entry
found_by : {V : Type 0} (o : Ordering) (k : List ℕ) (x : List ℕ × V) (es : Entries V) (i : ℕ) (d : List ℕ × V) → match_ordering o (Err 0) (Ok 0) (later (place_of k es)) ≡ Ok i
    → ((j : ℕ) → place_of k es ≡ Ok j → find by_bytes k es ≡ Some (get_or es j d).1)
    → cond (is_eq o) (Some x.1) (find by_bytes k es) ≡ Some (get_or (x ∷ es) i d).1
found_by Less k x es i d e below = cc
found_by Equal k x es i d e below = let z : 0 ≡ i = cc in subst (λ n. Some x.1 ≡ Some (get_or (x ∷ es) n d).1) z refl
found_by Greater k x es i d e below =
    let later = found_later (place_of k es) i e in
    subst (λ n. find by_bytes k es ≡ Some (get_or (x ∷ es) n d).1) (sym later.2) (below later.0 later.1)

pub find_found : {V : Type 0} (k : List ℕ) (es : Entries V) (i : ℕ) (d : List ℕ × V) → place_of k es ≡ Ok i → find by_bytes k es ≡ Some (get_or es i d).1
find_found k [] i d e = cc
find_found k (x ∷ es) i d e = found_by (by_bytes k x.0) k x es i d e (λ j h. find_found k es j d h)

find_none_below : {V : Type 0} (k n : List ℕ) (es : Entries V) → by_bytes k n ≡ Less → T (below_all by_bytes n es) → find by_bytes k es ≡ None
find_none_below k n [] order h = refl
find_none_below k n (e ∷ es) order h =
    ap (λ o. cond (is_eq o) (Some e.1) (find by_bytes k es)) (nat_list_cmp_total.trans k n e.0 order (less _ (first _ _ h)))
    ∙ find_none_below k n es order (second _ _ h)

gap_by : {V : Type 0} (o : Ordering) (k : List ℕ) (x : List ℕ × V) (es : Entries V) (i : ℕ) → by_bytes k x.0 ≡ o → T (below_all by_bytes x.0 es) → match_ordering o (Err 0) (Ok 0) (later (place_of k es)) ≡ Err i
    → ((j : ℕ) → place_of k es ≡ Err j → find by_bytes k es ≡ None)
    → cond (is_eq o) (Some x.1) (find by_bytes k es) ≡ None
gap_by Less k x es i is h e below = find_none_below k x.0 es is h
gap_by Equal k x es i is h e below = cc
gap_by Greater k x es i is h e below = let later = gap_later (place_of k es) i e in below later.0 later.1

pub find_gap : {V : Type 0} (k : List ℕ) (es : Entries V) (i : ℕ) → Sorted es → place_of k es ≡ Err i → find by_bytes k es ≡ None
find_gap k [] i h e = refl
find_gap k (x ∷ es) i h e = gap_by (by_bytes k x.0) k x es i refl (first _ _ h) e (λ j g. find_gap k es j (second _ _ h) g)

-- the search invariant: the part that is left, offset by b entries, decides the index among n entries
abbrev pub Searching : {V : Type 0} → List ℕ → Result ℕ ℕ → ℕ → ℕ → Entries V → Type 0
Searching k r n b es = (r ≡ shifted b (place_of k es)) × Sorted es × (b + length es ≤ n)

pub searching_before : {V : Type 0} (k : List ℕ) (r : Result ℕ ℕ) (n b : ℕ) (es : Entries V) (m : ℕ) (x : List ℕ × V) → Searching k r n b es → m < length es → x ≡ get_or es m x → by_bytes k x.0 ≡ Less → Searching k r n b (take m es)
searching_before k r n b es m x so_far h is order =
    let short = short_front es m h in
    (left_before k r b es m x so_far.0 h is order, sorted_before es m x h is so_far.1, omega (arith, so_far.2, short))

pub searching_after : {V : Type 0} (k : List ℕ) (r : Result ℕ ℕ) (n b : ℕ) (es : Entries V) (m : ℕ) (x : List ℕ × V) → Searching k r n b es → m < length es → x ≡ get_or es m x → by_bytes k x.0 ≡ Greater → Searching k r n (b + (m + 1)) (drop (m + 1) es)
searching_after k r n b es m x so_far h is order =
    let short = length-drop (m + 1) es in
    (left_after k r b es m x so_far.0 h is so_far.1 order, sorted_after es m x h is so_far.1, omega (arith, so_far.2, short))

pub searching_here : {V : Type 0} (k : List ℕ) (r : Result ℕ ℕ) (n b : ℕ) (es : Entries V) (m : ℕ) (x : List ℕ × V) → Searching k r n b es → m < length es → x ≡ get_or es m x → by_bytes k x.0 ≡ Equal → Ok (b + m) ≡ r
searching_here k r n b es m x so_far h is order = sym (left_here k r b es m x so_far.0 h is so_far.1 order)

pub half_within : (n : ℕ) → false ≡ (n == 0) → n / 2 < n
half_within zero some = absurd (false_is_not_true some)
half_within (suc n) some = omega arith
