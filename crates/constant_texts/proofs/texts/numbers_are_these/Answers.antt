use Rattle.std.proofs.Common.{refl}
use Rattle.constant_texts.proofs.texts.numbers_are_these.Goals as goal

pub returns-clause-limits : goal.returns-clause-limits
returns-clause-limits c = record { input_limit = refl; most_bytes = refl; max_safe_integer = refl }

pub returns-clause-keys : goal.returns-clause-keys
returns-clause-keys c = record { name_scrypt = refl; name_secret_box = refl; salt_size = refl; scrypt_n_low = refl; scrypt_n_high = refl; scrypt_r = refl; scrypt_p = refl; box_key_size = refl; box_nonce_size = refl; default_key_size = refl }
