use Rattle.std.proofs.Common.{◌-◌, length}
use Rattle.engine_push.proofs.PieceTree.{Holding}
use Rattle.engine_push.proofs.pieces.pieces_read.Given as goal

abbrev pub invariant-loop-held : goal.invariant-loop-held
invariant-loop-held g l = Holding l.limit l.held (g.P.PieceSource.state l.fn.pieces) (g.P.PieceSource.state l.pieces)

abbrev pub decreases-loop-held : goal.decreases-loop-held
decreases-loop-held g l = l.limit - length l.held
