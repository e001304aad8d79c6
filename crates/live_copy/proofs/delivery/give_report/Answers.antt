use Rattle.std.proofs.Common.{Ok}
use Rattle.live_host.proofs.Causes.{passed}
use Rattle.live_copy.specs.Course.{OutcomeCut}
use Rattle.live_copy.proofs.Ending.{report_cut}
use Rattle.live_copy.proofs.delivery.give_report.Goals as goal

pub returns-in_err-tell-clause-cause : goal.returns-in_err-tell-clause-cause
returns-in_err-tell-clause-cause g c = passed (λ e. OutcomeCut e (Ok c.args.report.now)) _ _ _ _ (report_cut c.args.report.now _ _ _ _ c.in_ok-head.ensures.head c.in_err-tell.ensures.cause) c.from_residual-in_err-tell.ensures
