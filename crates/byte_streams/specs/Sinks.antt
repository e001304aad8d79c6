-- The state of the in-memory sinks.
use Rattle.std.specs.Prelude.{ℕ, List, Some}
use Rattle.byte_streams.specs.declared.memory_sink.MemorySink.{MemorySink}
use Rattle.byte_streams.specs.declared.plain_sink.PlainSink.{PlainSink}
use Rattle.byte_streams.specs.SinkState.{SinkState}

abbrev pub memory_sink_state : MemorySink → SinkState
memory_sink_state s = record { taken = Some s.bytes.items; faults = s.faults }

-- the number of calls so far, saturating at `u64::MAX`
abbrev pub calls_of : MemorySink → ℕ
calls_of s = s.calls

-- the calls at which it fails
abbrev pub failing_of : MemorySink → List ℕ
failing_of s = s.failing

abbrev pub plain_sink_state : PlainSink → SinkState
plain_sink_state s = record { taken = Some s.bytes.items; faults = 0 }
