use Rattle.live_admit.proofs.Reviews.{stopped_early}
use Rattle.live_admit.proofs.serve.serve_each.Goals as goal

pub returns-in-Err : goal.returns-in-Err
returns-in-Err g c =
    rw c.end_with.ensures
    (stopped_early c.args.rules.now.items c.loop-served.rules.items c.serve_review-left.new.rules.items c.args.reviews c.loop-served.served c.in-Err.status _ _ _ c.loop-served-test.true c.loop-served.invariant.1 (rw c.in-Err.is at c.serve_review-left.ensures))
