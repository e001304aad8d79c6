use Rattle.locked_cases.proofs.Entered.{rises}
use Rattle.locked_cases.proofs.input.is_ascending.Goals as goal

pub returns-in-Some : goal.returns-in-Some
returns-in-Some c = rises c.args.texts.now _ _ c.are_less.result c.in-Some.ensures.cases.0 c.are_less.ensures
