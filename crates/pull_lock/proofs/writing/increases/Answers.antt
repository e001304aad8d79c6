use Rattle.pull_lock.proofs.FileLaws.{rises}
use Rattle.pull_lock.proofs.writing.increases.Goals as goal

pub returns-in-Some : goal.returns-in-Some
returns-in-Some c = rises c.args.entries.now _ _ c.are_before.result c.in-Some.ensures.cases.0 c.are_before.ensures
