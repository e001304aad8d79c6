use Rattle.std.proofs.Common.{◌-◌, length}
use Rattle.byte_streams.proofs.Sinks.{PutSoFar}
use Rattle.byte_streams.proofs.sink.put_all.Given as goal

abbrev pub invariant-loop-at : goal.invariant-loop-at
invariant-loop-at g l = PutSoFar l.piece l.at (g.S.Sink.state l.fn.sink) (g.S.Sink.state l.sink)

abbrev pub decreases-loop-at : goal.decreases-loop-at
decreases-loop-at g l = length l.piece - l.at
