use Rattle.pulled_cases.proofs.pulls.pull_over.Goals as goal

pub returns-clause-run : goal.returns-clause-run
returns-clause-run g c = rw c.as_slice.ensures at c.verified_pull.ensures.run
