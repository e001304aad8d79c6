use Rattle.pull_run.proofs.mirrors.mirror_under.Goals as goal

pub returns-in-Ok : goal.returns-in-Ok
returns-in-Ok g c = c.mirror_from.ensures c.args.input.target c.in-Ok.ensures
