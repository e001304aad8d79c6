-- The state of the descriptor's bytes: they are not exposed.
use Rattle.std.specs.Prelude.{None}
use Rattle.byte_streams.specs.Source.{SourceState}
use Rattle.roksnaep_core.specs.declared.descriptor.Descriptor.{Descriptor}

abbrev pub source_state : Descriptor → SourceState
source_state d = record { left = None; faults = d.faults }
