use Rattle.oci_transport.specs.Pieces.{NoneEmpty}
use Rattle.link_tests.proofs.scripts.pieces.Given as goal

abbrev pub invariant-loop-place : goal.invariant-loop-place
invariant-loop-place l = NoneEmpty l.pieces
