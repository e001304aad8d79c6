-- The value of each public constant.
use Rattle.std.specs.Prelude.{◌≡◌, codes, refl}
use Rattle.key_parts.specs.declared.key_box.TheConstants as box
use Rattle.key_parts.specs.declared.scrypt.TheConstants as scrypt

pub name_scrypt : scrypt.NAME_SCRYPT.now ≡ codes "scrypt"
name_scrypt = refl

pub name_secret_box : box.NAME_SECRET_BOX.now ≡ codes "nacl/secretbox"
name_secret_box = refl

pub salt_size : scrypt.SALT_SIZE ≡ 32
salt_size = refl

pub scrypt_n_low : scrypt.SCRYPT_N_LOW ≡ 32768
scrypt_n_low = refl

pub scrypt_n_high : scrypt.SCRYPT_N_HIGH ≡ 65536
scrypt_n_high = refl

pub scrypt_r : scrypt.SCRYPT_R ≡ 8
scrypt_r = refl

pub scrypt_p : scrypt.SCRYPT_P ≡ 1
scrypt_p = refl

pub box_key_size : box.BOX_KEY_SIZE ≡ 32
box_key_size = refl

pub box_nonce_size : box.BOX_NONCE_SIZE ≡ 24
box_nonce_size = refl
