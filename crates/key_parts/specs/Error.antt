-- Whether an error is out of memory.
use Rattle.std.specs.Prelude.{Bool, true, false}
use Rattle.key_parts.specs.declared.error.KeyError.{KeyError}
use Rattle.key_parts.specs.declared.error.KeyError.TheVariants.{KeyParseError, KeyGenerationError, SigningError}
use Rattle.key_parts.specs.declared.error.KeyError.TheVariants.{UnmatchedKeyAndSigningScheme, WantOfMemory}

abbrev pub is_memory : KeyError → Bool
is_memory KeyParseError = false
is_memory KeyGenerationError = false
is_memory SigningError = false
is_memory (UnmatchedKeyAndSigningScheme key scheme) = false
is_memory WantOfMemory = true
