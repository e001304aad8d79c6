use Rattle.pull_admit.proofs.Allowed.{all_each}
use Rattle.pull_admit.proofs.respond.response.Goals as goal

pub returns-in_err-json-clause-allowed : goal.returns-in_err-json-clause-allowed
returns-in_err-json-clause-allowed c = all_each c.args.decisions.now

pub returns-in-Ok-clause-allowed : goal.returns-in-Ok-clause-allowed
returns-in-Ok-clause-allowed c = all_each c.args.decisions.now

pub returns-clause-allowed : goal.returns-clause-allowed
returns-clause-allowed c = all_each c.args.decisions.now
