-- Why a signature layer is rejected.
use Rattle.std.specs.Prelude.{Bool, true, false}
use Rattle.cosign_layers.specs.declared.rejection.LayerRejection.{LayerRejection}
use Rattle.cosign_layers.specs.declared.rejection.LayerRejection.TheVariants.{WantOfMemory}

-- whether the rejection is out of memory
abbrev pub is_memory : LayerRejection → Bool
is_memory WantOfMemory = true
is_memory _ = false
