use Rattle.locked_cases.proofs.Policies.{judged}
use Rattle.locked_cases.proofs.check.check_read.Goals as goal

pub returns : goal.returns
returns c = record {
  verdict = c.in_ok-verdict.verdict;
  judges = judged _ c.args.case c.in-Ok.constraints c.args.lock.entries c.in_ok-verdict.verdict
      (rw c.as_slice.ensures at c.in-Ok.ensures) (rw c.terms_in-terms.ensures at c.in_ok-verdict.ensures);
  line = c.in_ok-report.ensures;
}
