use Rattle.pull_admit.proofs.responses.review_case.Goals as goal

pub review_under-requires-clause-constraints : goal.review_under-requires-clause-constraints
review_under-requires-clause-constraints c = rw c.as_slice.ensures at c.in-Ok.ensures
