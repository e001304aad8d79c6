use Rattle.live_check.proofs.Ends.{passed_on, untold_cut}
use Rattle.live_check.proofs.serve.tell_none.Goals as goal

pub returns-in_err-tell-clause-cause : goal.returns-in_err-tell-clause-cause
returns-in_err-tell-clause-cause g c = passed_on _ _ _ (untold_cut _ _ _ _ _ c.in_ok-head.ensures.head c.in_err-tell.ensures.cause) c.from_residual-in_err-tell.ensures
