-- Whether an error is out of memory.
use Rattle.std.specs.Prelude.{Bool, true, false}
use Rattle.key_parts.specs.declared.envelope_error.KdfError.{KdfError}
use Rattle.key_parts.specs.declared.envelope_error.KdfError.TheVariants.{EnvelopeUnreadable, PrivateKeyDecryptError}
use Rattle.key_parts.specs.declared.envelope_error.KdfError.TheVariants.{WantOfMemory}

abbrev pub is_memory : KdfError → Bool
is_memory EnvelopeUnreadable = false
is_memory (PrivateKeyDecryptError cause) = false
is_memory WantOfMemory = true
