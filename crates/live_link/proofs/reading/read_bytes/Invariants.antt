use Rattle.std.proofs.Common.{◌≤◌, ◌-◌, length}
use Rattle.live_link.proofs.TakenBytes.{BytesSoFar}
use Rattle.live_link.proofs.reading.read_bytes.Given as goal

abbrev pub invariant-loop-alloc : goal.invariant-loop-alloc
invariant-loop-alloc g l = (length l.bytes ≤ l.count) × BytesSoFar l.bytes (g.S.Source.state l.initial.source) (g.S.Source.state l.source)

abbrev pub decreases-loop-alloc : goal.decreases-loop-alloc
decreases-loop-alloc g l = l.count - length l.bytes
