-- The state of the adapter for a `std` writer.
use Rattle.std.specs.Prelude.{None}
use Rattle.byte_streams.specs.SinkState.{SinkState}
use Rattle.byte_streams.specs.declared.std_sink.StdSink.{StdSink}

-- it does not expose its bytes
abbrev pub sink_state : {W : Type 0} → StdSink W → SinkState
sink_state s = record { taken = None; faults = s.faults }
