use Rattle.live_host.specs.Wire.{wire}
use Rattle.live_check.proofs.Pieces.{HashedSoFar}
use Rattle.live_check.proofs.blobs.hash_parts.Given as goal

-- the pieces so far were received and hashed, and as many bytes are left as were not received
abbrev pub invariant-loop-part : goal.invariant-loop-part
invariant-loop-part g l = HashedSoFar l.size l.left l.fn.digester l.digester (wire g.S.Source.state g.K.Sink.state l.fn.streams) (wire g.S.Source.state g.K.Sink.state l.streams)

abbrev pub decreases-loop-part : goal.decreases-loop-part
decreases-loop-part g l = l.left
