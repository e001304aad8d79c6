use Rattle.pull_run.proofs.Opened.{opens_target}
use Rattle.pull_run.proofs.target.open_with.Goals as goal

pub returns : goal.returns
returns c = λ usual auth reads. opens_target c.args.target c.args.asked c.new.result usual auth reads c.new.ensures.settings c.new.ensures.fresh
