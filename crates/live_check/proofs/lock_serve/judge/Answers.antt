use Rattle.live_check.proofs.Ends.{passed_on}
use Rattle.live_check.proofs.LockEnds.{verdict_untold}
use Rattle.live_check.proofs.lock_serve.judge.Goals as goal

pub returns-in_err-tell-clause-cause : goal.returns-in_err-tell-clause-cause
returns-in_err-tell-clause-cause g c = passed_on _ _ _ (verdict_untold _ _ _ c.in_ok-verdict.verdict _ _ _ _ c.in_ok-verdict.ensures c.in_ok-head.ensures.head c.in_err-tell.ensures.cause) c.from_residual-in_err-tell.ensures
