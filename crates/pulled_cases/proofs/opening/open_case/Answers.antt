use Rattle.pulled_cases.proofs.opening.open_case.Goals as goal

pub returns-in-Ok : goal.returns-in-Ok
returns-in-Ok g c = c.open_with.ensures c.in-Ok.ensures.usual c.in-Ok.ensures.auth (rw c.as_str.ensures at c.in-Ok.ensures.image) c.requires.constraints
