-- The state of a source of bytes in memory.
use Rattle.std.specs.Prelude.{ℕ, List, Some, drop}
use Rattle.byte_streams.specs.declared.memory_source.MemorySource.{MemorySource}
use Rattle.byte_streams.specs.Source.{SourceState}

abbrev pub source_state : MemorySource → SourceState
source_state s = record { left = Some (drop s.at s.content); faults = s.faults }

-- the number of calls so far, saturating at `u64::MAX`
abbrev pub calls_of : MemorySource → ℕ
calls_of s = s.calls

-- the calls at which it fails
abbrev pub failing_of : MemorySource → List ℕ
failing_of s = s.failing
