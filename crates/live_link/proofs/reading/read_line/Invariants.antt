use Rattle.std.proofs.Common.{◌≡◌, ◌+◌, ◌-◌, length}
use Rattle.live_link.specs.Frame.{most_bytes}
use Rattle.live_link.proofs.TakenBytes.{LineSoFar}
use Rattle.live_link.proofs.reading.read_line.Given as goal

abbrev pub invariant-loop-room : goal.invariant-loop-room
invariant-loop-room g l = (length l.room ≡ 1) × LineSoFar l.line (g.S.Source.state l.initial.source) (g.S.Source.state l.source)

abbrev pub decreases-loop-room : goal.decreases-loop-room
decreases-loop-room g l = (most_bytes + 1) - length l.line
