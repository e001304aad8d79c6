use Rattle.std.proofs.lemmas.Bool.{eqb-true, eq-eqb}
use Rattle.live_check.proofs.Ends.{passed_on}
use Rattle.live_check.proofs.Pieces.{fewer_left, hashed_all, hashed_cut, hashed_more, hashed_over}
use Rattle.live_check.proofs.blobs.hash_parts.Goals as goal

pub returns-in-End-clause-hashed : goal.returns-in-End-clause-hashed
returns-in-End-clause-hashed g c = hashed_all _ _ _ _ _ _ _ _ c.loop-part.invariant (rw c.in-End.is at c.in_ok-part.ensures.received) (eqb-true _ 0, eq-eqb _ 0)

pub returns-then-count-left-clause-hashed : goal.returns-then-count-left-clause-hashed
returns-then-count-left-clause-hashed g c = hashed_over _ _ _ _ _ _ _ _ c.loop-part.invariant (rw c.in-Piece.is at c.in_ok-part.ensures.received) (rw c.as_slice.ensures at c.if-count-left.true)

pub loop-part-smaller : goal.loop-part-smaller
loop-part-smaller g c = rw c.as_slice.ensures (fewer_left _ _ _ _ (rw c.in-Piece.is at c.in_ok-part.ensures.received) (rw c.as_slice.ensures at c.if-count-left.false))

pub loop-part-preserved : goal.loop-part-preserved
loop-part-preserved g c = rw c.as_slice.ensures (hashed_more _ _ _ _ _ _ _ _ _ c.loop-part.invariant (rw c.in-Piece.is at c.in_ok-part.ensures.received) (rw c.as_slice.ensures at c.if-count-left.false) (λ a m h. rw c.as_slice-in-loop-part.ensures at (c.update.ensures a m h)))

pub returns-in_err-part-clause-cause : goal.returns-in_err-part-clause-cause
returns-in_err-part-clause-cause g c = passed_on _ _ _ (hashed_cut _ _ _ _ _ _ _ _ c.loop-part.invariant c.in_err-part.ensures.cause) c.from_residual.ensures
