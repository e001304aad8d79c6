use Rattle.oci_transport.specs.Pieces.{NoneEmpty}
use Rattle.engine_tests.proofs.recorded.pieces.Given as goal

abbrev pub invariant-loop-piece : goal.invariant-loop-piece
invariant-loop-piece l = NoneEmpty l.pieces
