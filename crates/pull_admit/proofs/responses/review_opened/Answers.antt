use Rattle.pulled_cases.proofs.Cases.{ok_weaker}
use Rattle.pull_admit.proofs.Reviews.{reports_once}
use Rattle.pull_admit.proofs.responses.review_opened.Goals as goal

pub returns : goal.returns
returns g c = λ case plain opens.
    ok_weaker c.review_over-report.result
    (λ made over. reports_once _ case c.args.opened c.as_slice.result.now c.args.asked.now made c.as_slice.ensures c.requires.once plain opens over)
    c.review_over-report.ensures
