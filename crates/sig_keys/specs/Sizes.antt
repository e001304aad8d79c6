-- The value of the public constant.
use Rattle.std.specs.Prelude.{◌≡◌, refl}
use Rattle.sig_keys.specs.declared.rsa.TheConstants.{DEFAULT_KEY_SIZE}

pub default_key_size : DEFAULT_KEY_SIZE ≡ 2048
default_key_size = refl
