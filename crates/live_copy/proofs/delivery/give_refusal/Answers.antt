use Rattle.live_host.proofs.Causes.{passed}
use Rattle.live_copy.specs.Course.{RefusalCut}
use Rattle.live_copy.proofs.Ending.{line_cut}
use Rattle.live_copy.proofs.delivery.give_refusal.Goals as goal

pub returns-in_err-tell-clause-cause : goal.returns-in_err-tell-clause-cause
returns-in_err-tell-clause-cause g c = passed (RefusalCut (g.R.Printed.print c.args.refusal.now)) _ _ _ _ (line_cut _ c.in_ok-report.report _ _ _ _ c.in_ok-report.ensures (rw c.as_str.ensures at c.in_ok-head.ensures.head) c.in_err-tell.ensures.cause) c.from_residual-in_err-tell.ensures
