use Rattle.pod_reviews.proofs.Allowed.{value_each}
use Rattle.pod_reviews.proofs.verdict.all_allowed.Goals as goal

pub returns-clause-each : goal.returns-clause-each
returns-clause-each c = value_each c.every_allowed.result c.args.verdicts.now c.every_allowed.ensures
