use Rattle.pulled_cases.proofs.Cases.{ok_weaker}
use Rattle.pull_run.proofs.Opened.{reports_opened}
use Rattle.pull_run.proofs.mirrors.mirror_opened.Goals as goal

pub returns : goal.returns
returns g c = λ case opens to opens_to.
    ok_weaker c.mirror_over-report.result
    (λ made over. reports_opened _ case c.args.opened to c.args.target c.as_slice.result.now made c.as_slice.ensures c.requires.once opens opens_to over)
    c.mirror_over-report.ensures
