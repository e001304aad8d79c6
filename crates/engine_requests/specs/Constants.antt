-- The public constant is the list of types that the definitions write out.
use Rattle.std.specs.Prelude.{◌≡◌, refl}
use Rattle.engine_requests.specs.Requests.{manifest_types}
use Rattle.engine_requests.specs.declared.requests.TheConstants as constant

pub manifest_types_are : constant.MANIFEST_TYPES.now ≡ manifest_types
manifest_types_are = refl
