use Rattle.pull_admit.proofs.Reviewing.{reviews_in, faults_in, memory_in, completes_in}
use Rattle.pull_admit.proofs.decisions.review.Goals as goal

pub returns-clause-reviewed : goal.returns-clause-reviewed
returns-clause-reviewed g c = reviews_in _ _ _ _ _ _ c.review_each.result c.review_each.ensures.decided

pub returns-clause-confined : goal.returns-clause-confined
returns-clause-confined g c = c.review_each.ensures.keeps.confined

pub returns-clause-fault : goal.returns-clause-fault
returns-clause-fault g c = faults_in _ _ _ _ _ _ c.review_each.result c.review_each.ensures.decided

pub returns-clause-no_memory : goal.returns-clause-no_memory
returns-clause-no_memory g c = memory_in _ _ _ _ _ _ c.review_each.result c.review_each.ensures.decided

pub returns-clause-completes : goal.returns-clause-completes
returns-clause-completes g c = completes_in _ _ _ _ _ _ c.review_each.result c.review_each.ensures.decided

pub returns-clause-settled : goal.returns-clause-settled
returns-clause-settled g c = λ shelf registry from at settled. (c.review_each.ensures.keeps.settled shelf registry from at settled).1
