use Rattle.live_host.proofs.Causes.{passed}
use Rattle.live_blobs.specs.Delivery.{RefusalCut}
use Rattle.live_blobs.proofs.Delivered.{no_report}
use Rattle.live_blobs.proofs.delivery.give_error.Goals as goal

pub returns-in_err-tell-clause-cause : goal.returns-in_err-tell-clause-cause
returns-in_err-tell-clause-cause g c =
    passed (RefusalCut c.args.error.now) _ _ _ _ (no_report c.args.error.now c.in_ok-report.report _ _ _ c.in_ok-report.ensures (rw (c.in_ok-head.ensures.head, c.as_str.ensures) at c.in_err-tell.ensures.cause)) c.from_residual-in_err-tell.ensures
