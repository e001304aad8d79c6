-- The public constant has this value.
use Rattle.std.specs.Prelude.{◌≡◌, refl}
use Rattle.live_link.specs.Frame.{most_bytes}
use Rattle.live_link.specs.declared.reading.TheConstants as constant

pub most_bytes_is : constant.MOST_BYTES ≡ most_bytes
most_bytes_is = refl
