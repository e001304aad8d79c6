-- Limits, and the parameters of encrypted private keys.
use Rattle.std.specs.Prelude.{◌≡◌, ◌-◌, ◌^◌, pos, codes}
use Rattle.byte_streams.specs.declared.reading.TheConstants as input
use Rattle.json_events.specs.declared.scalars.TheConstants as numbers
use Rattle.key_parts.specs.declared.key_box.TheConstants as box
use Rattle.key_parts.specs.declared.scrypt.TheConstants as scrypt
use Rattle.sig_keys.specs.declared.rsa.TheConstants as rsa
use Rattle.live_link.specs.declared.reading.TheConstants as frames

-- of the bytes of an input and of a line of a frame, and of an integer (RFC 8785, 3.2.2.3)
pub record LimitsAre : Type 0 where
  pub input_limit : input.INPUT_LIMIT ≡ 67108864
  pub most_bytes : frames.MOST_BYTES ≡ 1048576
  pub max_safe_integer : numbers.MAX_SAFE_INTEGER ≡ pos (2 ^ 53 - 1)

-- of encrypted private keys, and the bits of an RSA key
pub record KeyParametersAre : Type 0 where
  pub name_scrypt : scrypt.NAME_SCRYPT.now ≡ codes "scrypt"
  pub name_secret_box : box.NAME_SECRET_BOX.now ≡ codes "nacl/secretbox"
  pub salt_size : scrypt.SALT_SIZE ≡ 32
  pub scrypt_n_low : scrypt.SCRYPT_N_LOW ≡ 32768
  pub scrypt_n_high : scrypt.SCRYPT_N_HIGH ≡ 65536
  pub scrypt_r : scrypt.SCRYPT_R ≡ 8
  pub scrypt_p : scrypt.SCRYPT_P ≡ 1
  pub box_key_size : box.BOX_KEY_SIZE ≡ 32
  pub box_nonce_size : box.BOX_NONCE_SIZE ≡ 24
  pub default_key_size : rsa.DEFAULT_KEY_SIZE ≡ 2048
