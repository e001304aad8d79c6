use Rattle.pulled_cases.proofs.pulls.pull_case.Goals as goal

pub pull_under-requires-clause-constraints : goal.pull_under-requires-clause-constraints
pull_under-requires-clause-constraints c = rw c.as_slice.ensures at c.in-Ok.ensures
