-- Equality of maps and sets.
use Rattle.std.specs.Prelude.{◌≡◌, ◌↔◌, Bool, true, IsTrue, ◌&&◌}
use Rattle.std.specs.Str.{bytes_eq}
use Rattle.std.specs.FinMap.{FinMap, entries}
use Rattle.std.specs.Cmp.{IsEquivalence, IsPartialEquivalence, and_equiv, and_per, on_equiv, on_per}
use Rattle.std.specs.Cmp.{partial_equiv_from_equiv}
use Rattle.std.specs.Cmp.Derive.{point_equiv}
use Rattle.std.specs.Cmp.Lexicographic.{pointwise, nat_list_eq_equiv, lists_equiv, lists_per}
use Rattle.json_values.specs.Places.{by_bytes}

-- the function returns true if and only if its arguments are equal
abbrev pub IsEquality : {A : Type 0} → (A → A → Bool) → Type 0
IsEquality {A} E = (x y : A) → IsTrue (E x y) ↔ (x ≡ y)

-- the same names, each with equal values
abbrev pub is_same_map : {V : Type 0} → (V → V → Bool)
    → FinMap by_bytes V → FinMap by_bytes V → Bool
is_same_map E a b = pointwise (λ x y. bytes_eq x.0 y.0 && E x.1 y.1) (entries a) (entries b)

pub maps_partial : {V : Type 0} {E : V → V → Bool}
    → IsPartialEquivalence E → IsPartialEquivalence (is_same_map E)
maps_partial laws = on_per entries (lists_per
    (and_per (on_per (λ e. e.0) (partial_equiv_from_equiv nat_list_eq_equiv)) (on_per (λ e. e.1) laws)))

pub maps : {V : Type 0} {E : V → V → Bool} → IsEquivalence E → IsEquivalence (is_same_map E)
maps laws = on_equiv entries (lists_equiv
    (and_equiv (on_equiv (λ e. e.0) nat_list_eq_equiv) (on_equiv (λ e. e.1) laws)))

-- the same names
abbrev pub is_same_set : FinMap by_bytes (Unit {0}) → FinMap by_bytes (Unit {0}) → Bool
is_same_set = is_same_map (λ x y. true)

pub sets : IsEquivalence is_same_set
sets = maps point_equiv
