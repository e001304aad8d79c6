-- The value of the public constant.
use Rattle.std.specs.Prelude.{◌≡◌, refl}
use Rattle.byte_streams.specs.declared.reading.TheConstants as constant

pub input_limit_is : constant.INPUT_LIMIT ≡ 67108864
input_limit_is = refl
