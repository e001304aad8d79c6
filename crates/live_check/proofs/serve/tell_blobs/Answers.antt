use Rattle.live_check.proofs.Ends.{blobs_cut, blobs_untold, passed_on}
use Rattle.live_check.proofs.serve.tell_blobs.Goals as goal

pub returns-in_err-fell-clause-cause : goal.returns-in_err-fell-clause-cause
returns-in_err-fell-clause-cause g c = passed_on _ _ _ (blobs_cut _ _ _ _ c.in_err-fell.ensures.cause) c.from_residual.ensures

pub returns-in_err-tell-clause-cause : goal.returns-in_err-tell-clause-cause
returns-in_err-tell-clause-cause g c = passed_on _ _ _ (blobs_untold _ c.in_ok-fell.fell _ _ _ _ _ c.in_ok-fell.ensures.went c.in_ok-head.ensures.head c.in_err-tell.ensures.cause) c.from_residual-in_err-tell.ensures
