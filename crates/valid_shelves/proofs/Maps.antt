-- Maps with one more entry.
use Rattle.std.specs.Cmp.{eq_by_cmp_equiv}
use Rattle.std.specs.Cmp.Lexicographic.{nat_list_cmp_total}
use Rattle.std.specs.FinMap.{FinMap, get, insert, empty, get-insert, get-empty, nat_cmp-IsAntisymmetric, slice_cmp-IsAntisymmetric}
use Rattle.std.specs.Ordering.{eq_by_cmp, is_eq}
use Rattle.std.specs.declared.cmp.Ordering.{Ordering}
use Rattle.std.specs.declared.cmp.Ordering.TheVariants.{Less, Equal, Greater}
use Rattle.std.proofs.Common.{◌≡◌, ℕ, Bool, true, false, cond, List, Some, refl, sym, ap, ◌∙◌, subst}
use Rattle.json_values.specs.Places.{by_bytes}

equal_from : (o : Ordering) → is_eq o ≡ true → o ≡ Equal
equal_from Less h = cc
equal_from Equal h = refl
equal_from Greater h = cc

pub same_key : (x y : List ℕ) → eq_by_cmp by_bytes x y ≡ true → x ≡ y
same_key x y h = slice_cmp-IsAntisymmetric nat_cmp-IsAntisymmetric x y (equal_from (by_bytes x y) h)

-- ---- which keys are present

abbrev pub Has : {A : Type 0} → FinMap by_bytes A → List ℕ → Type 0
Has {A} m key = (a : A) × (get m key ≡ Some a)

-- the last inserted value is found
pub inserted : {A : Type 0} (m : FinMap by_bytes A) (key : List ℕ) (v : A) → get (insert m key v) key ≡ Some v
inserted m key v = get-insert nat_list_cmp_total m key v key ∙ ap (λ b. cond b (Some v) (get m key)) ((eq_by_cmp_equiv nat_list_cmp_total).refl key)

-- under another key nothing changes
pub others_by : {A : Type 0} (m : FinMap by_bytes A) (key : List ℕ) (v : A) (other : List ℕ) → eq_by_cmp by_bytes other key ≡ false → get (insert m key v) other ≡ get m other
others_by m key v other differ = get-insert nat_list_cmp_total m key v other ∙ ap (λ b. cond b (Some v) (get m other)) differ

-- an existing key stays
pub still_has : {A : Type 0} (m : FinMap by_bytes A) (key : List ℕ) (v : A) (other : List ℕ) → Has m other → Has (insert m key v) other
still_has {A} m key v other (w, is) = by_test (eq_by_cmp by_bytes other key) (get-insert nat_list_cmp_total m key v other) where
  by_test : (b : Bool) → get (insert m key v) other ≡ cond b (Some v) (get m other) → Has (insert m key v) other
  by_test true found = (v, found)
  by_test false found = (w, found ∙ is)

-- ---- properties of all values

abbrev pub Kept : {A : Type 0} → (List ℕ → A → Type 0) → FinMap by_bytes A → Type 0
Kept {A} P m = (key : List ℕ) (a : A) → get m key ≡ Some a → P key a

pub kept_empty : {A : Type 0} (P : List ℕ → A → Type 0) → Kept P empty
kept_empty P key a is = absurd (cc (sym (get-empty by_bytes key) ∙ is))

pub kept_insert : {A : Type 0} (P : List ℕ → A → Type 0) (m : FinMap by_bytes A) (key : List ℕ) (v : A) → P key v → Kept P m → Kept P (insert m key v)
kept_insert {A} P m key v here kept other w is = by_test (eq_by_cmp by_bytes other key) refl (sym (get-insert nat_list_cmp_total m key v other) ∙ is) where
  by_test : (b : Bool) → eq_by_cmp by_bytes other key ≡ b → cond b (Some v) (get m other) ≡ Some w → P other w
  by_test true same found = let own : v ≡ w = cc found in subst (λ (x : A). P other x) own (subst (λ (t : List ℕ). P t v) (sym (same_key other key same)) here)
  by_test false differ found = kept other w found
