use Rattle.pull_run.proofs.mirrors.mirror_case.Goals as goal

pub mirror_under-requires-clause-constraints : goal.mirror_under-requires-clause-constraints
mirror_under-requires-clause-constraints c = rw c.as_slice.ensures at c.in-Ok.ensures
