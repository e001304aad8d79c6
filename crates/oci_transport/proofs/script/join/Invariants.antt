use Rattle.std.proofs.Common.{◌≡◌, take}
use Rattle.oci_transport.specs.Pieces.{joined}
use Rattle.oci_transport.proofs.script.join.Given as goal

abbrev pub invariant-loop-piece : goal.invariant-loop-piece
invariant-loop-piece l = l.body ≡ joined (take l.piece-index l.pieces)
