use Rattle.pull_admit.proofs.Allowed.{value_each}
use Rattle.pull_admit.proofs.message.all_allowed.Goals as goal

pub returns-clause-each : goal.returns-clause-each
returns-clause-each c = value_each c.every_allowed.result c.args.decisions.now c.every_allowed.ensures
