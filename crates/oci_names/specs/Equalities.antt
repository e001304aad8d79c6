-- Equality of references is an equivalence.
use Rattle.std.specs.Prelude.{ℕ, List, Option, bytes_eq}
use Rattle.std.specs.Option.{option_eq}
use Rattle.std.specs.Cmp.{IsEquivalence, and_equiv, on_equiv}
use Rattle.std.specs.Cmp.Lexicographic.{nat_list_eq_equiv, options_equiv}
use Rattle.oci_names.specs.declared.reference.Reference.{Reference}
use Rattle.oci_names.specs.Reference.{is_same}

at_text : (f : Reference → List ℕ) → IsEquivalence (λ a b. bytes_eq (f a) (f b))
at_text f = on_equiv f nat_list_eq_equiv

at_option : (f : Reference → Option (List ℕ)) → IsEquivalence (λ a b. option_eq bytes_eq (f a) (f b))
at_option f = on_equiv f (options_equiv nat_list_eq_equiv)

pub references : IsEquivalence is_same
references =
    and_equiv
    (and_equiv
    (and_equiv (and_equiv (at_text (λ r. r.registry)) (at_option (λ r. r.mirror))) (at_text (λ r. r.repository)))
    (at_option (λ r. r.tag)))
    (at_option (λ r. r.digest))
