-- The state of the adapter for a `std` reader.
use Rattle.std.specs.Prelude.{ℕ, List, Option}
use Rattle.byte_streams.specs.declared.std_source.StdSource.{StdSource}
use Rattle.byte_streams.specs.Source.{SourceState}

-- the bytes that the reader has left, if it exposes them
abbrev pub source_state : {R : Type 0} → (R → Option (List ℕ)) → StdSource R → SourceState
source_state remaining s = record { left = remaining s.reader; faults = s.faults }
