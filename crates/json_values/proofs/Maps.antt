-- Sorted entries beside the finite map that they represent.
use Rattle.std.proofs.Common.{◌≡◌, ℕ, zero, suc, ◌+◌, ◌<◌, ◌≤◌, List, [], ◌∷◌, length, get_or, set, map, Some, None, option_map, slice_get, Result, Ok, Err, Ordering, Less, Equal, Greater, refl, sym, ap, subst, ◌∙◌, arith}
use Rattle.std.specs.List.{insert}
use Rattle.std.specs.FinMap as map
use Rattle.std.specs.FinMap.{from_sorted, entries, entries_sorted, entries-insert, entries-from_sorted, same_entries_map, len-entries, empty_of_len, empty}
use Rattle.std.specs.FinMap.Entries.{put, by_order}
use Rattle.std.specs.Ordering.{match_ordering}
use Rattle.std.specs.Cmp.Lexicographic.{nat_list_cmp_total}
use Rattle.json_values.specs.Places.{place_of, later, by_bytes, Sorted}

-- an index in the remaining entries, as an index in all of them
abbrev pub shifted : ℕ → Result ℕ ℕ → Result ℕ ℕ
shifted n (Ok i) = Ok (n + i)
shifted n (Err i) = Err (n + i)

abbrev pub Entries : Type 0 → Type 0
Entries V = List (List ℕ × V)

pub from_nothing : {V : Type 0} → from_sorted {X = V} {R = by_bytes} [] ≡ empty
from_nothing = empty_of_len _ (len-entries _ ∙ ap length (entries-from_sorted by_bytes [] tt))

entries_put : {V : Type 0} (es : Entries V) → Sorted es → (k : List ℕ) (v : V) → entries (map.insert (from_sorted {R = by_bytes} es) k v) ≡ put by_bytes k v es
entries_put es h k v = entries-insert nat_list_cmp_total (from_sorted es) k v ∙ ap (put by_bytes k v) (entries-from_sorted by_bytes es h)

pub sorted_put : {V : Type 0} (es : Entries V) → Sorted es → (k : List ℕ) (v : V) → Sorted (put by_bytes k v es)
sorted_put es h k v = subst Sorted (entries_put es h k v) (entries_sorted (map.insert (from_sorted {R = by_bytes} es) k v))

pub from_put : {V : Type 0} (es : Entries V) → Sorted es → (k : List ℕ) (v : V) → from_sorted {R = by_bytes} (put by_bytes k v es) ≡ map.insert (from_sorted es) k v
from_put es h k v = same_entries_map _ _ (entries-from_sorted by_bytes _ (sorted_put es h k v) ∙ sym (entries_put es h k v))

pub gap_later : (r : Result ℕ ℕ) (i : ℕ) → later r ≡ Err i → (j : ℕ) × (r ≡ Err j) × (i ≡ suc j)
gap_later (Ok n) i e = cc
gap_later (Err n) i e = (n, refl, cc)

pub found_later : (r : Result ℕ ℕ) (i : ℕ) → later r ≡ Ok i → (j : ℕ) × (r ≡ Ok j) × (i ≡ suc j)
found_later (Err n) i e = cc
found_later (Ok n) i e = (n, refl, cc)

gap_at : {V : Type 0} (o : Ordering) (k : List ℕ) (v : V) (x : List ℕ × V) (es : Entries V) (i : ℕ) → match_ordering o (Err 0) (Ok 0) (later (place_of k es)) ≡ Err i
    → ((j : ℕ) → place_of k es ≡ Err j → put by_bytes k v es ≡ insert es j (k, v))
    → by_order o ((k, v) ∷ x ∷ es) ((x.0, v) ∷ es) (x ∷ put by_bytes k v es) ≡ insert (x ∷ es) i (k, v)
gap_at Less k v x es i e below = let z : 0 ≡ i = cc in subst (λ n. (k, v) ∷ x ∷ es ≡ insert (x ∷ es) n (k, v)) z refl
gap_at Equal k v x es i e below = cc
gap_at Greater k v x es i e below =
    let later = gap_later (place_of k es) i e in
    subst (λ n. x ∷ put by_bytes k v es ≡ insert (x ∷ es) n (k, v)) (sym later.2) (ap (λ fs. x ∷ fs) (below later.0 later.1))

-- a missing name is inserted at its index
pub put_gap : {V : Type 0} (k : List ℕ) (v : V) (es : Entries V) (i : ℕ) → place_of k es ≡ Err i → put by_bytes k v es ≡ insert es i (k, v)
put_gap k v [] i e = let z : 0 ≡ i = cc in subst (λ n. put by_bytes k v [] ≡ insert [] n (k, v)) z refl
put_gap k v (x ∷ es) i e = gap_at (by_bytes k x.0) k v x es i e (λ j h. put_gap k v es j h)

found_at : {V : Type 0} (o : Ordering) (k : List ℕ) (v : V) (x : List ℕ × V) (es : Entries V) (i : ℕ) (d : List ℕ × V) → match_ordering o (Err 0) (Ok 0) (later (place_of k es)) ≡ Ok i
    → ((j : ℕ) → place_of k es ≡ Ok j → put by_bytes k v es ≡ set es j ((get_or es j d).0, v))
    → by_order o ((k, v) ∷ x ∷ es) ((x.0, v) ∷ es) (x ∷ put by_bytes k v es) ≡ set (x ∷ es) i ((get_or (x ∷ es) i d).0, v)
found_at Less k v x es i d e below = cc
found_at Equal k v x es i d e below = let z : 0 ≡ i = cc in subst (λ n. (x.0, v) ∷ es ≡ set (x ∷ es) n ((get_or (x ∷ es) n d).0, v)) z refl
found_at Greater k v x es i d e below =
    let later = found_later (place_of k es) i e in
    subst (λ n. x ∷ put by_bytes k v es ≡ set (x ∷ es) n ((get_or (x ∷ es) n d).0, v)) (sym later.2) (ap (λ fs. x ∷ fs) (below later.0 later.1))

-- the value of a present name is replaced
pub put_found : {V : Type 0} (k : List ℕ) (v : V) (es : Entries V) (i : ℕ) (d : List ℕ × V) → place_of k es ≡ Ok i → put by_bytes k v es ≡ set es i ((get_or es i d).0, v)
put_found k v [] i d e = cc
put_found k v (x ∷ es) i d e = found_at (by_bytes k x.0) k v x es i d e (λ j h. put_found k v es j d h)

pub names_of : {V : Type 0} (es : Entries V) → Sorted es → map.keys (from_sorted {R = by_bytes} es) ≡ map (λ e. e.0) es
names_of es h = ap (map (λ e. e.0)) (entries-from_sorted by_bytes es h)

pub name_at : {V : Type 0} (es : Entries V) (i : ℕ) → slice_get (map (λ e. e.0) es) i ≡ option_map (λ e. e.0) (slice_get es i)
name_at [] i = refl
name_at (e ∷ es) zero = refl
name_at (e ∷ es) (suc i) = name_at es i

pub slice_get-found : {A : Type 0} (xs : List A) (i : ℕ) (d : A) → i < length xs → slice_get xs i ≡ Some (get_or xs i d)
slice_get-found [] i d h = absurd (omega arith)
slice_get-found (x ∷ xs) zero d h = refl
slice_get-found (x ∷ xs) (suc i) d h = slice_get-found xs i d (omega arith)

pub slice_get-past : {A : Type 0} (xs : List A) (i : ℕ) → length xs ≤ i → slice_get xs i ≡ None
slice_get-past [] i h = refl
slice_get-past (x ∷ xs) zero h = absurd (omega arith)
slice_get-past (x ∷ xs) (suc i) h = slice_get-past xs i (omega arith)
