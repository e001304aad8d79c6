use Rattle.pulled_cases.proofs.pulls.pull_under.Goals as goal

pub pull_opened-requires : goal.pull_opened-requires
pull_opened-requires g c = rw c.in-Ok.ensures.registry c.requires.ready.1

pub returns-in-Ok : goal.returns-in-Ok
returns-in-Ok g c = c.pull_opened.ensures c.args.case c.in-Ok.ensures
