use Rattle.pull_run.proofs.target.open_target.Goals as goal

pub returns-in-Ok : goal.returns-in-Ok
returns-in-Ok c = c.open_with.ensures c.in-Ok.ensures.usual c.in-Ok.ensures.auth (rw c.as_str.ensures at c.in-Ok.ensures.image)
