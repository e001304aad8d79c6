use Rattle.std.proofs.Common.{◌+◌, ◌-◌, ◌<◌, length, vec_len}
use Rattle.byte_streams.proofs.Springs.{ReadSoFar}
use Rattle.byte_streams.proofs.reading.read_all.Given as goal

abbrev pub invariant-loop-read : goal.invariant-loop-read
invariant-loop-read g l = (0 < vec_len l.room) × ReadSoFar l.limit l.read (g.S.Source.state l.initial.source) (g.S.Source.state l.source)

abbrev pub decreases-loop-read : goal.decreases-loop-read
decreases-loop-read g l = (l.limit + 1) - length l.read
