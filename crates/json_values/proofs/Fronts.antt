-- Lists and members that are written one after another.
use Rattle.std.proofs.Common.{◌≡◌, ℕ, zero, suc, ◌+◌, ◌<◌, List, [], ◌∷◌, ◌++◌, T, Bool, true, false, ◌&&◌, take, length, get_or, map, Ordering, Less, Equal, Greater, is_lt, refl, sym, ap, subst, ◌∙◌}
use Rattle.std.proofs.lemmas.List.{take_more}
use Rattle.std.specs.Ordering.{ordering_reverse, match_ordering}
use Rattle.std.specs.Cmp.Lexicographic.{nat_list_cmp_total}
use Rattle.std.specs.FinMap.Entries.{below_all}
use Rattle.serde_json.specs.declared.value.Value.{Value}
use Rattle.serde_json.specs.Data.{Data, member, put}
use Rattle.serde_json.specs.View.{view}
use Rattle.json_values.specs.Places.{by_bytes, Sorted}
use Rattle.json_values.specs.Writing.{members_list}
use Rattle.json_values.proofs.Maps.{Entries}

-- the prefix that is one item longer
pub front_more : {X : Type 0} (xs : List X) (i : ℕ) (x : X) → i < length xs → x ≡ get_or xs i x → take (i + 1) xs ≡ take i xs ++ x ∷ []
front_more xs i x h is = take_more xs i x h ∙ ap (λ y. take i xs ++ y ∷ []) (sym is)

pub map_push : {A B : Type 0} (f : A → B) (xs : List A) (x : A) → map f (xs ++ x ∷ []) ≡ map f xs ++ f x ∷ []
map_push f [] x = refl
map_push f (y ∷ xs) x = ap (λ ys. f y ∷ ys) (map_push f xs x)

-- one more value is written
pub values_written : {X : Type 0} (w : X → Data) (values : List Value) (v : Value) (xs : List X) (i : ℕ) (x : X) → i < length xs → x ≡ get_or xs i x
    → map view values ≡ map w (take i xs) → view v ≡ w x → map view (values ++ v ∷ []) ≡ map w (take (i + 1) xs)
values_written w values v xs i x h is so_far made =
    map_push view values v ∙ ap (λ ds. ds ++ view v ∷ []) so_far ∙ ap (λ d. map w (take i xs) ++ d ∷ []) made ∙ sym (map_push w (take i xs) x) ∙ ap (map w) (sym (front_more xs i x h is))

pub both_0 : (a b : Bool) → T (a && b) → T a
both_0 true b h = tt
both_0 false b h = h

pub both_1 : (a b : Bool) → T (a && b) → T b
both_1 true b h = h
both_1 false b h = absurd h

pub both : (a b : Bool) → T a → T b → T (a && b)
both true b h k = k
both false b h k = absurd h

less : (o : Ordering) → T (is_lt o) → o ≡ Less
less Less h = refl
less Equal h = absurd h
less Greater h = absurd h

pub greater : (k l : List ℕ) → T (is_lt (by_bytes l k)) → by_bytes k l ≡ Greater
greater k l h = nat_list_cmp_total.antisymm k l ∙ ap ordering_reverse (less (by_bytes l k) h)

pub below_last : {V : Type 0} (x : List ℕ) (es : Entries V) (e : List ℕ × V) → T (below_all by_bytes x (es ++ e ∷ [])) → T (is_lt (by_bytes x e.0))
below_last x [] e h = both_0 _ _ h
below_last x (y ∷ es) e h = below_last x es e (both_1 (is_lt (by_bytes x y.0)) _ h)

-- a name greater than all others is inserted last
pub put_last : {V : Type 0} (f : V → Data) (es : Entries V) (e : List ℕ × V) → Sorted (es ++ e ∷ []) → put e.0 (f e.1) (members_list f es) ≡ members_list f (es ++ e ∷ [])
put_last f [] e h = refl
put_last f (y ∷ es) e h =
    let later : by_bytes e.0 y.0 ≡ Greater = greater e.0 y.0 (below_last y.0 es e (both_0 _ _ h)) in
    ap (λ o. match_ordering o (member e.0 (f e.1) (member y.0 (f y.1) (members_list f es))) (member y.0 (f e.1) (members_list f es)) (member y.0 (f y.1) (put e.0 (f e.1) (members_list f es)))) later
    ∙ ap (member y.0 (f y.1)) (put_last f es e (both_1 (below_all by_bytes y.0 (es ++ e ∷ [])) _ h))

below_front : {V : Type 0} (x : List ℕ) (es : Entries V) (n : ℕ) → T (below_all by_bytes x es) → T (below_all by_bytes x (take n es))
below_front x [] zero h = tt
below_front x [] (suc n) h = tt
below_front x (y ∷ es) zero h = tt
below_front x (y ∷ es) (suc n) h = both _ _ (both_0 _ _ h) (below_front x es n (both_1 (is_lt (by_bytes x y.0)) _ h))

pub sorted_take : {V : Type 0} (es : Entries V) (n : ℕ) → Sorted es → Sorted (take n es)
sorted_take [] zero h = tt
sorted_take [] (suc n) h = tt
sorted_take (y ∷ es) zero h = tt
sorted_take (y ∷ es) (suc n) h = both _ _ (below_front y.0 es n (both_0 _ _ h)) (sorted_take es n (both_1 (below_all by_bytes y.0 es) _ h))

-- one more member is written
pub members_written : {V : Type 0} (w : V → Data) (es : Entries V) (i : ℕ) (e : List ℕ × V) (d : Data) → Sorted es → i < length es → e ≡ get_or es i e → d ≡ w e.1
    → put e.0 d (members_list w (take i es)) ≡ members_list w (take (i + 1) es)
members_written w es i e d sorted h is made =
    let more = front_more es i e h is in
    let above = subst Sorted more (sorted_take es (i + 1) sorted) in
    ap (λ x. put e.0 x (members_list w (take i es))) made ∙ put_last w (take i es) e above ∙ ap (members_list w) (sym more)
