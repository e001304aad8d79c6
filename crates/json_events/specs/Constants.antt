-- The greatest safe integer (RFC 8785, 3.2.2.3): the value of the public constant.
use Rattle.std.specs.Prelude.{◌≡◌, ◌-◌, ◌^◌, ℤ, pos, refl}
use Rattle.json_events.specs.declared.scalars.TheConstants as constant

pub max_safe_integer_is : constant.MAX_SAFE_INTEGER ≡ pos (2 ^ 53 - 1)
max_safe_integer_is = refl
