use Rattle.pulled_cases.proofs.once.pull_once.Goals as goal

pub pull_once_under-requires-clause-constraints : goal.pull_once_under-requires-clause-constraints
pull_once_under-requires-clause-constraints c = rw c.as_slice.ensures at c.in-Ok.ensures
