use Rattle.locked_cases.proofs.Entered.{wholes_more}
use Rattle.locked_cases.proofs.input.wholes_of.Goals as goal

pub loop-case-preserved : goal.loop-case-preserved
loop-case-preserved c =
    wholes_more c.loop-case.texts _ c.args.cases.now c.loop-case.case-index c.case-item.result c.in_ok-text.text c.loop-case-test.true c.case-item.is c.loop-case.invariant c.in_ok-text.ensures c.in_ok-push.ensures.ok
