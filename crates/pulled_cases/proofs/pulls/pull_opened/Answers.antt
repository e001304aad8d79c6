use Rattle.pulled_cases.proofs.Cases.{reports_opened, ok_weaker}
use Rattle.pulled_cases.proofs.pulls.pull_opened.Goals as goal

pub returns : goal.returns
returns g c = λ case opens.
    ok_weaker c.pull_each-report.result
    (λ made played. reports_opened (λ b. (goal.VerificationConstraint-dyn g (b.vtable, b.value)).accepts b.value) case c.args.opened c.as_slice.result.now _ made c.as_slice.ensures opens played)
    c.pull_each-report.ensures
