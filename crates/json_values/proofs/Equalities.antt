-- Equality of lists, maps and sets is decided, given that equality of items and values is.
use Rattle.std.proofs.Common.{◌≡◌, ◌↔◌, ℕ, List, Bool, true, IsTrue, ◌&&◌, refl, ap, ◌∙◌}
use Rattle.std.specs.Str.{bytes_eq}
use Rattle.std.specs.FinMap.{FinMap, entries, same_entries_map}
use Rattle.std.specs.Cmp.Lexicographic.{pointwise}
use Rattle.std.proofs.lemmas.Bool.Decides.{Decides-and, Decides-like}
use Rattle.std.proofs.lemmas.Slice.Eq.{slice_eq-Decides, bytes_eq-Decides}
use Rattle.json_values.specs.Places.{by_bytes}
use Rattle.json_values.specs.Equalities.{IsEquality, is_same_map, is_same_set}

pub lists_decided : {A : Type 0} {E : A → A → Bool} → IsEquality E → (r : Bool) (xs ys : List A) → r ≡ pointwise E xs ys → IsTrue r ↔ (xs ≡ ys)
lists_decided same r xs ys e = slice_eq-Decides same xs ys r e

pairs_decided : {A B : Type 0} {E : A → A → Bool} {F : B → B → Bool} → IsEquality E → IsEquality F → IsEquality (λ (p q : A × B). E p.0 q.0 && F p.1 q.1)
pairs_decided {E = E} {F = F} f g p q =
    Decides-like (E p.0 q.0 && F p.1 q.1) (λ h i. (h.0 i, h.1 i)) (λ e. (ap (λ u. u.0) e, ap (λ u. u.1) e)) (Decides-and (E p.0 q.0) (F p.1 q.1) (f p.0 q.0) (g p.1 q.1))

pub maps_decided : {V : Type 0} {E : V → V → Bool} → IsEquality E → (r : Bool) (m n : FinMap by_bytes V) → r ≡ is_same_map E m n → IsTrue r ↔ (m ≡ n)
maps_decided same r m n e =
    Decides-like r (same_entries_map m n) (ap entries) (slice_eq-Decides (pairs_decided bytes_eq-Decides same) (entries m) (entries n) r e)

pub compared : {V : Type 0} (E : V → V → Bool) (r : Bool) (m n : FinMap by_bytes V) (xs ys : List (List ℕ × V)) → r ≡ pointwise (λ x y. bytes_eq x.0 y.0 && E x.1 y.1) xs ys
    → xs ≡ entries m → ys ≡ entries n → r ≡ is_same_map E m n
compared E r m n xs ys e p q = e ∙ (λ i. pointwise (λ x y. bytes_eq x.0 y.0 && E x.1 y.1) (p i) (q i))

pub sets_decided : (r : Bool) (m n : FinMap by_bytes (Unit {0})) → r ≡ is_same_set m n → IsTrue r ↔ (m ≡ n)
sets_decided r m n e = maps_decided {E = λ (x y : Unit {0}). true} (λ x y. (λ _. refl, λ _. refl)) r m n e
