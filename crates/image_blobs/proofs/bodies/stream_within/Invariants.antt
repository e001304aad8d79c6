use Rattle.std.proofs.Common.{◌-◌}
use Rattle.oci_protocol.proofs.PiecesIntoSink.{Poured}
use Rattle.image_blobs.proofs.bodies.stream_within.Given as goal

abbrev pub invariant-loop-piece : goal.invariant-loop-piece
invariant-loop-piece g l = Poured l.limit l.taken l.fn.digesters l.digesters (g.T.Transport.state l.fn.transport) (g.T.Transport.state l.transport) (g.S.Sink.state l.fn.sink) (g.S.Sink.state l.sink)

abbrev pub decreases-loop-piece : goal.decreases-loop-piece
decreases-loop-piece g l = l.limit - l.taken
