-- Lists split at an index.
use Rattle.std.proofs.Common.{◌≡◌, ℕ, zero, suc, ◌+◌, ◌≤◌, List, [], ◌∷◌, ◌++◌, length, take, drop, map, refl, sym, ap, ◌∙◌, arith}

pub take_front : {A : Type 0} (k : ℕ) (c a : List A) → k ≤ length c → take k (c ++ a) ≡ take k c
take_front zero c a le = refl
take_front (suc k) [] a le = absurd (omega (arith, le))
take_front (suc k) (x ∷ c) a le = ap (λ rest. x ∷ rest) (take_front k c a (omega (arith, le)))

pub drop_front : {A : Type 0} (k : ℕ) (c a : List A) → k ≤ length c → drop k (c ++ a) ≡ drop k c ++ a
drop_front zero c a le = refl
drop_front (suc k) [] a le = absurd (omega (arith, le))
drop_front (suc k) (x ∷ c) a le = drop_front k c a (omega (arith, le))

pub drop_count : {A : Type 0} (k : ℕ) (c : List A) → k ≤ length c → length (drop k c) + k ≡ length c
drop_count zero c le = omega arith
drop_count (suc k) [] le = absurd (omega (arith, le))
drop_count (suc k) (x ∷ c) le = let rest : length (drop k c) + k ≡ length c = drop_count k c (omega (arith, le)) in omega (arith, rest)

pub map_joined : {A B : Type 0} (f : A → B) (c a : List A) → map f (c ++ a) ≡ map f c ++ map f a
map_joined f [] a = refl
map_joined f (x ∷ c) a = ap (λ rest. f x ∷ rest) (map_joined f c a)

pub joined : {A : Type 0} (x y z : List A) → (x ++ y) ++ z ≡ x ++ (y ++ z)
joined [] y z = refl
joined (b ∷ x) y z = ap (λ rest. b ∷ rest) (joined x y z)
