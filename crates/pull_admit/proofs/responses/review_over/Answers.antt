use Rattle.pulled_cases.proofs.Cases.{ok_weaker}
use Rattle.pull_admit.proofs.Reviews.{decisions_each, responds}
use Rattle.pull_admit.proofs.responses.review_over.Goals as goal

pub respond-report-requires : goal.respond-report-requires
respond-report-requires g c = decisions_each (rw c.as_slice-2.ensures at c.in_ok-decisions.ensures.reviewed)

pub returns : goal.returns
returns g c =
    ok_weaker c.respond-report.result
    (λ made response. responds c.args.registry c.new-replay.result c.review.new.transport c.args.asked.now c.conversation-calm.result.now
    c.new-replay.ensures.told c.new-replay.ensures.faults c.new-replay.ensures.table c.conversation-calm.ensures.told c.conversation-calm.ensures.faults_recorded
    (rw (c.as_slice.ensures, c.as_slice-2.ensures) at c.in_ok-decisions.ensures.reviewed) response)
    c.respond-report.ensures
