use Rattle.std.proofs.Common.{◌≤◌, ◌<◌, ◌-◌, length, vec_len}
use Rattle.live_blobs.proofs.Taken.{TakenSoFar}
use Rattle.live_blobs.proofs.source_pieces.next_piece.Given as goal

abbrev pub invariant-loop-count : goal.invariant-loop-count
invariant-loop-count g l = (0 < vec_len l.room) × (length l.piece ≤ 4128768) × TakenSoFar l.piece (g.B.Source.state l.initial.source) (g.B.Source.state l.source)

abbrev pub decreases-loop-count : goal.decreases-loop-count
decreases-loop-count g l = 4128769 - length l.piece
