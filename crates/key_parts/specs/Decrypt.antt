-- The plain bytes of an envelope, or the first cause for refusing it.
use Rattle.std.specs.Prelude.{ℕ, List, length, ◌==◌, Bool, true, false, bytes_eq, Option, ok_or, Result, Ok, Err, codes}
use Rattle.json_tables.specs.Plain.{read_plain}
use Rattle.json_values.specs.Refusals.{◌>>=◌}
use Rattle.key_parts.specs.Envelope.{envelope_of}
use Rattle.key_parts.specs.Scrypt.{are_known, log_of}
use Rattle.key_parts.specs.declared.envelope.Envelope.{Envelope}
use Rattle.key_parts.specs.declared.envelope_error.DecryptCause.{DecryptCause}
use Rattle.key_parts.specs.declared.envelope_error.DecryptCause.TheVariants.{UnknownCipher, UnknownKdf, UnexpectedParameters}
use Rattle.key_parts.specs.declared.envelope_error.DecryptCause.TheVariants.{NonceLength, UnsealRefused}
use Rattle.key_parts.specs.declared.envelope_error.KdfError.{KdfError}
use Rattle.key_parts.specs.declared.envelope_error.KdfError.TheVariants.{EnvelopeUnreadable, PrivateKeyDecryptError}

-- the key of a password and a salt, under log N, r and p
abbrev pub Derives : Type 0
Derives = List ℕ → List ℕ → ℕ → ℕ → ℕ → List ℕ

-- the plain bytes of sealed bytes under a key and a nonce, if they can be opened
abbrev pub Opens : Type 0
Opens = List ℕ → List ℕ → List ℕ → Option (List ℕ)

-- continue if the condition holds
abbrev pub unless : DecryptCause → Bool → Result (Unit {0}) KdfError
unless cause true = Ok tt
unless cause false = Err (PrivateKeyDecryptError cause)

-- the envelope has a form that cosign writes
abbrev pub checked : Envelope → Result (Unit {0}) KdfError
checked envelope = do
  cipher ← unless (UnknownCipher envelope.cipher.name) (bytes_eq envelope.cipher.name (codes "nacl/secretbox"))
  derivation ← unless (UnknownKdf envelope.derivation.name) (bytes_eq envelope.derivation.name (codes "scrypt"))
  params ← unless UnexpectedParameters (are_known envelope.derivation.params)
  unless NonceLength (length envelope.cipher.nonce == 24)

-- the key under which the envelope is sealed
abbrev pub key_of : Derives → Envelope → List ℕ → List ℕ
key_of derives envelope password =
    derives password envelope.derivation.salt (log_of envelope.derivation.params.n)
    envelope.derivation.params.r envelope.derivation.params.p

-- the plain bytes of the envelope, if the box opens it
abbrev pub plain_of : Derives → Opens → Envelope → List ℕ → Option (List ℕ)
plain_of derives opens envelope password =
    opens (key_of derives envelope password) envelope.cipher.nonce envelope.ciphertext

-- the plain bytes of an envelope's text, or the first cause for refusing it
abbrev pub decrypted : Derives → Opens → List ℕ → List ℕ → Result (List ℕ) KdfError
decrypted derives opens bytes password = do
  envelope ← ok_or (read_plain envelope_of bytes) EnvelopeUnreadable
  known ← checked envelope
  ok_or (plain_of derives opens envelope password) (PrivateKeyDecryptError UnsealRefused)
