-- The envelope of a private key, as cosign writes it.
use Rattle.std.specs.Prelude.{ℕ, List, ◌++◌, Option, Some, codes}
use Rattle.base64.specs.Engines.{standard}
use Rattle.base64.specs.GeneralPurpose.{encode_of}
use Rattle.serde_json.specs.Data.{Data}
use Rattle.json_tables.specs.Bytes.{base64_of}
use Rattle.json_tables.specs.Reading.{◌>>=◌, text_of}
use Rattle.json_tables.specs.Member.{required}
use Rattle.key_parts.specs.Scrypt.{params_of}
use Rattle.key_parts.specs.declared.envelope.Cipher.{Cipher}
use Rattle.key_parts.specs.declared.envelope.Derivation.{Derivation}
use Rattle.key_parts.specs.declared.envelope.Envelope.{Envelope}

abbrev pub kdf_of : Data → Option Derivation
kdf_of d = do
  name ← required text_of (codes "name") d
  params ← required params_of (codes "params") d
  salt ← required base64_of (codes "salt") d
  Some (record { name = name; params = params; salt = salt })

abbrev pub cipher_of : Data → Option Cipher
cipher_of d = do
  name ← required text_of (codes "name") d
  nonce ← required base64_of (codes "nonce") d
  Some (record { name = name; nonce = nonce })

abbrev pub envelope_of : Data → Option Envelope
envelope_of d = do
  derivation ← required kdf_of (codes "kdf") d
  cipher ← required cipher_of (codes "cipher") d
  ciphertext ← required base64_of (codes "ciphertext") d
  Some (record { derivation = derivation; cipher = cipher; ciphertext = ciphertext })

-- the envelope of such a text: scrypt with N 32768, r 8 and p 1, and a secret box
abbrev pub envelope_with : List ℕ → List ℕ → List ℕ → Envelope
envelope_with salt nonce ciphertext = record {
  derivation = record {
    name = codes "scrypt";
    params = record { n = 32768; r = 8; p = 1 };
    salt = salt;
  };
  cipher = record { name = codes "nacl/secretbox"; nonce = nonce };
  ciphertext = ciphertext;
}

-- the envelope of a salt, a nonce and a ciphertext, each in padded base64 (RFC 4648, 4), with its members in this order
abbrev pub envelope_text : List ℕ → List ℕ → List ℕ → List ℕ
envelope_text salt nonce ciphertext =
    codes "{\"kdf\":{\"name\":\"scrypt\",\"params\":{\"N\":32768,\"r\":8,\"p\":1},\"salt\":\""
    ++ encode_of standard salt
    ++ codes "\"},\"cipher\":{\"name\":\"nacl/secretbox\",\"nonce\":\""
    ++ encode_of standard nonce
    ++ codes "\"},\"ciphertext\":\""
    ++ encode_of standard ciphertext
    ++ codes "\"}"
