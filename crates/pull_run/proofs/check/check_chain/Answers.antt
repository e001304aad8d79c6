use Rattle.pull_run.proofs.Verdicts.{judged}
use Rattle.pull_run.proofs.check.check_chain.Goals as goal

pub returns : goal.returns
returns c = judged c.args.input c.in_ok-holds.holds c.in_ok-report.report c.in_ok-holds.ensures c.in_ok-report.ensures
