use Rattle.live_admit.proofs.Decisions.{verdict_by}
use Rattle.live_admit.proofs.decision.decide.Goals as goal

pub returns-in-Ok-clause-verdict : goal.returns-in-Ok-clause-verdict
returns-in-Ok-clause-verdict g c = λ suits.
    rw c.judge_outcome.ensures.streams
    (verdict_by c.args.settings _ _ _ _ c.in-Ok.outcome c.judge_outcome.result.verdict ((rw c.in-Ok.is at c.decide_again-streams.ensures.decided) suits) c.judge_outcome.ensures.verdict)

pub returns-in-Err-clause-verdict : goal.returns-in-Err-clause-verdict
returns-in-Err-clause-verdict g c = λ suits. (rw c.in-Err.is at c.decide_again-streams.ensures.decided) suits
