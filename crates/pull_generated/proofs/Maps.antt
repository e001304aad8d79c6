-- Properties of all values of a map, and which keys it has.
use Rattle.std.proofs.Common.{◌≡◌, ◌↔◌, ℕ, Bool, true, false, cond, List, [], ◌∷◌, Option, Some, None, IsTrue, true≢false, refl, sym, ap, subst, ◌∙◌}
use Rattle.std.specs.declared.cmp.Ordering.{Ordering}
use Rattle.std.specs.declared.cmp.Ordering.TheVariants.{Less, Equal, Greater}
use Rattle.std.specs.FinMap.{FinMap, get, insert, empty, get-insert, get-empty, slice_cmp-IsAntisymmetric, nat_cmp-IsAntisymmetric}
use Rattle.std.specs.Ordering.{eq_by_cmp, is_eq}
use Rattle.std.specs.Cmp.{tied_itself}
use Rattle.std.specs.Cmp.Lexicographic.{nat_list_cmp_total}
use Rattle.json_values.specs.Places.{by_bytes}
use Rattle.pull_generated.specs.Shelf.{with_each}
use Rattle.pull_generated.specs.Texts.{sha256_text}
use Rattle.pull_generated.proofs.Manifests.{Each}

tied : (r : Ordering) → IsTrue (is_eq r) → r ≡ Equal
tied Less h = absurd (true≢false (sym h))
tied Equal h = refl
tied Greater h = absurd (true≢false (sym h))

same_name : (x y : List ℕ) → IsTrue (eq_by_cmp by_bytes x y) → x ≡ y
same_name x y h = slice_cmp-IsAntisymmetric nat_cmp-IsAntisymmetric x y (tied (by_bytes x y) h)

is_itself : (x : List ℕ) → eq_by_cmp by_bytes x x ≡ true
is_itself x = ap is_eq (tied_itself nat_list_cmp_total x)

-- ---- which keys are present

abbrev pub Has : {A : Type 0} → FinMap by_bytes A → List ℕ → Type 0
Has {A} m q = (a : A) × (get m q ≡ Some a)

pub inserted : {A : Type 0} (m : FinMap by_bytes A) (k : List ℕ) (v : A) → get (insert m k v) k ≡ Some v
inserted m k v = get-insert nat_list_cmp_total m k v k ∙ ap (λ b. cond b (Some v) (get m k)) (is_itself k)

pub others_by : {A : Type 0} (m : FinMap by_bytes A) (k : List ℕ) (v : A) (q : List ℕ) → eq_by_cmp by_bytes q k ≡ false → get (insert m k v) q ≡ get m q
others_by m k v q other = get-insert nat_list_cmp_total m k v q ∙ ap (λ b. cond b (Some v) (get m q)) other

pub others_stay : {A : Type 0} (m : FinMap by_bytes A) (k : List ℕ) (v : A) (q : List ℕ) → (q ≡ k → ⊥) → get (insert m k v) q ≡ get m q
others_stay m k v q other = get-insert nat_list_cmp_total m k v q ∙ by_test (eq_by_cmp by_bytes q k) refl where
  by_test : (b : Bool) → eq_by_cmp by_bytes q k ≡ b → cond b (Some v) (get m q) ≡ get m q
  by_test true same = absurd (other (same_name q k same))
  by_test false same = refl

pub still_has : {A : Type 0} (m : FinMap by_bytes A) (k : List ℕ) (v : A) (q : List ℕ) → Has m q → Has (insert m k v) q
still_has {A} m k v q has = by_test (eq_by_cmp by_bytes q k) (sym (get-insert nat_list_cmp_total m k v q)) where
  by_test : (b : Bool) → cond b (Some v) (get m q) ≡ get (insert m k v) q → Has (insert m k v) q
  by_test true is = (v, sym is)
  by_test false is = (has.0, sym is ∙ has.1)

-- ---- properties of all values

abbrev pub Kept : {A : Type 0} → (List ℕ → A → Type 0) → FinMap by_bytes A → Type 0
Kept {A} P m = (k : List ℕ) (a : A) → get m k ≡ Some a → P k a

pub kept_empty : {A : Type 0} (P : List ℕ → A → Type 0) → Kept P empty
kept_empty P k a is = absurd (cc (sym (get-empty by_bytes k) ∙ is))

pub kept_insert : {A : Type 0} (P : List ℕ → A → Type 0) (m : FinMap by_bytes A) (k : List ℕ) (v : A) → P k v → Kept P m → Kept P (insert m k v)
kept_insert {A} P m k v here kept q a is = by_test (eq_by_cmp by_bytes q k) refl (sym (get-insert nat_list_cmp_total m k v q) ∙ is) where
  by_test : (b : Bool) → eq_by_cmp by_bytes q k ≡ b → cond b (Some v) (get m q) ≡ Some a → P q a
  by_test true same it = let value : v ≡ a = cc it in subst (λ (a : A). P q a) value (subst (λ (q : List ℕ). P q v) (sym (same_name q k same)) here)
  by_test false same it = kept q a it

-- ---- bytes under their digests

pub each_kept : (P : List ℕ → List ℕ → Type 0) (xs : List (List ℕ)) → Each (λ x. P (sha256_text x) x) xs → (m : FinMap by_bytes (List ℕ)) → Kept P m → Kept P (with_each m xs)
each_kept P [] each m kept = kept
each_kept P (x ∷ xs) each m kept = each_kept P xs each.1 (insert m (sha256_text x) x) (kept_insert P m (sha256_text x) x each.0 kept)

each_has : (xs : List (List ℕ)) (m : FinMap by_bytes (List ℕ)) (q : List ℕ) → Has m q → Has (with_each m xs) q
each_has [] m q has = has
each_has (x ∷ xs) m q has = each_has xs (insert m (sha256_text x) x) q (still_has m (sha256_text x) x q has)

pub each_there : (xs : List (List ℕ)) (m : FinMap by_bytes (List ℕ)) → Each (λ x. Has (with_each m xs) (sha256_text x)) xs
each_there [] m = tt
each_there (x ∷ xs) m = (each_has xs (insert m (sha256_text x) x) (sha256_text x) (x, inserted m (sha256_text x) x), each_there xs (insert m (sha256_text x) x))
