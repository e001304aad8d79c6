-- Equality of moments is an equivalence.
use Rattle.std.specs.Prelude.{ℕ, ◌==◌}
use Rattle.std.specs.Cmp.{IsEquivalence, and_equiv, on_equiv, nat_eq_equiv}
use Rattle.oci_docs.specs.Moment.{Moment, is_same}

at_part : (f : Moment → ℕ) → IsEquivalence (λ a b. f a == f b)
at_part f = on_equiv f nat_eq_equiv

pub moments : IsEquivalence is_same
moments =
    and_equiv (and_equiv (and_equiv (and_equiv (and_equiv (and_equiv
    (at_part (λ m. m.year)) (at_part (λ m. m.month))) (at_part (λ m. m.day)))
    (at_part (λ m. m.hour))) (at_part (λ m. m.minute)))
    (at_part (λ m. m.second))) (at_part (λ m. m.nanosecond))
