use Rattle.live_host.proofs.Causes.{passed}
use Rattle.live_pull.specs.Refusals.{RefusalCut}
use Rattle.live_pull.proofs.EarlyEnds.{refusal_cut}
use Rattle.live_pull.proofs.refusal.give_refusal.Goals as goal

pub returns-in_err-tell-clause-cause : goal.returns-in_err-tell-clause-cause
returns-in_err-tell-clause-cause g c =
    passed (RefusalCut c.args.refusal.now) _ _ _ _
    (refusal_cut c.args.refusal.now c.in_ok-report.report _ _ _ c.in_ok-report.ensures (rw (c.in_ok-head.ensures.head, c.as_str.ensures) at c.in_err-tell.ensures.cause)) c.from_residual-in_err-tell.ensures

pub returns-clause-told : goal.returns-clause-told
returns-clause-told g c = (c.in_ok-report.report, c.in_ok-report.ensures, rw (c.in_ok-head.ensures.head, c.as_str.ensures) at c.in_ok-tell.ensures.told)
