use Rattle.pod_reviews.proofs.Allowed.{all_each}
use Rattle.pod_reviews.proofs.respond.respond_verdicts.Goals as goal

pub returns-in_err-patch-clause-allowed : goal.returns-in_err-patch-clause-allowed
returns-in_err-patch-clause-allowed c = all_each c.args.verdicts.now

pub returns-in_err-json-clause-allowed : goal.returns-in_err-json-clause-allowed
returns-in_err-json-clause-allowed c = all_each c.args.verdicts.now

pub returns-in-Ok-clause-allowed : goal.returns-in-Ok-clause-allowed
returns-in-Ok-clause-allowed c = all_each c.args.verdicts.now

pub returns-clause-allowed : goal.returns-clause-allowed
returns-clause-allowed c = all_each c.args.verdicts.now
