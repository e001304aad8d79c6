-- Why a digest is refused.
use Rattle.std.specs.Prelude.{Bool, true, false}
use Rattle.oci_digests.specs.declared.error.DigestError.{DigestError}
use Rattle.oci_digests.specs.declared.error.DigestError.TheVariants.{WantOfMemory}

-- whether the error is out of memory
abbrev pub is_memory : DigestError → Bool
is_memory WantOfMemory = true
is_memory _ = false
