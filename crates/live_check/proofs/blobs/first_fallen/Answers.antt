use Rattle.live_check.proofs.InTurn.{one_cut, one_fell, one_more}
use Rattle.live_check.proofs.Ends.{passed_on}
use Rattle.live_check.proofs.blobs.first_fallen.Goals as goal

pub returns-then-not-stood-clause-went : goal.returns-then-not-stood-clause-went
returns-then-not-stood-clause-went g c = one_fell _ _ _ _ _ _ _ _ _ _ c.loop-at-test.true c.in-Some.ensures c.if-not-stood.true c.in_ok-digest.ensures c.loop-at.invariant c.in_ok-stood.ensures.checked

pub loop-at-preserved : goal.loop-at-preserved
loop-at-preserved g c = one_more _ _ _ _ _ _ _ _ _ c.loop-at-test.true c.in-Some.ensures c.if-not-stood.false c.loop-at.invariant c.in_ok-stood.ensures.checked

pub returns-in_err-stood-clause-cause : goal.returns-in_err-stood-clause-cause
returns-in_err-stood-clause-cause g c = passed_on _ _ _ (one_cut _ _ _ _ _ _ _ _ _ c.loop-at-test.true c.in-Some.ensures c.loop-at.invariant c.in_err-stood.ensures.cause) c.from_residual.ensures
