-- The operations that tokens are stored for.
use Rattle.std.specs.Prelude.{ℕ, Bool, nat_eq}
use Rattle.std.specs.Ordering.{nat_cmp}
use Rattle.std.specs.Cmp.{IsEquivalence, IsTotalOrder, on_equiv, on_total, nat_eq_equiv, nat_cmp_total}
use Rattle.std.specs.declared.cmp.Ordering.{Ordering}
use Rattle.oci_auth.specs.declared.token_type.RegistryOperation.{RegistryOperation}
use Rattle.oci_auth.specs.declared.token_type.RegistryOperation.TheVariants.{Push, Pull}

-- a push comes before a pull
abbrev pub place_of : RegistryOperation → ℕ
place_of Push = 0
place_of Pull = 1

abbrev pub is_same_operation : RegistryOperation → RegistryOperation → Bool
is_same_operation a b = nat_eq (place_of a) (place_of b)

abbrev pub order : RegistryOperation → RegistryOperation → Ordering
order a b = nat_cmp (place_of a) (place_of b)

pub equal : IsEquivalence is_same_operation
equal = on_equiv place_of nat_eq_equiv

pub ordered : IsTotalOrder order
ordered = on_total place_of nat_cmp_total
