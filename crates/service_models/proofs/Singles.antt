-- Objects with one member.
use Rattle.std.proofs.Common.{◌≡◌, ◌≢◌, List, [], ◌∷◌, length, slice_get, Some, None, refl, arith, string_bytes, String, Global}
use Rattle.serde_json.specs.declared.value.Value.{Value}
use Rattle.serde_json.specs.View.{view, members_view}
use Rattle.service_models.specs.Single.{single}

pub others : (ms : List (String Global × Value)) → length ms ≢ 1 → single (members_view ms) ≡ None
others [] other = refl
others (m ∷ []) other = absurd (other refl)
others (m ∷ n ∷ ms) other = refl

pub one : (ms : List (String Global × Value)) (name : String Global) (value : Value) → length ms ≡ 1 → slice_get ms 0 ≡ Some (name, value) → single (members_view ms) ≡ Some (string_bytes name, view value)
one [] name value n h = absurd (cc n)
one (m ∷ []) name value n h = let e : m ≡ (name, value) = cc in rw e refl
one (m ∷ k ∷ ms) name value n h = absurd (omega (arith, n))
