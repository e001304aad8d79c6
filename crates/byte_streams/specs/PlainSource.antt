-- The state of a source that never fails.
use Rattle.std.specs.Prelude.{Some, drop}
use Rattle.byte_streams.specs.declared.plain_source.PlainSource.{PlainSource}
use Rattle.byte_streams.specs.Source.{SourceState}

abbrev pub source_state : PlainSource → SourceState
source_state s = record { left = Some (drop s.at s.content); faults = 0 }
