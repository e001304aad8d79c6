-- Errors of calls to Rekor.
use Rattle.std.specs.Prelude.{Bool, true, false}
use Rattle.sig_services.specs.declared.error.Error.{Error}
use Rattle.sig_services.specs.declared.error.Error.TheVariants.{WantOfMemory}

-- whether the error is out of memory
abbrev pub is_memory : {E : Type 0} → Error E → Bool
is_memory WantOfMemory = true
is_memory _ = false
