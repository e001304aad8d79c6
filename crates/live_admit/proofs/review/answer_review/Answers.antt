use Rattle.live_admit.proofs.Reviews.{responded, undecided}
use Rattle.live_admit.proofs.review.answer_review.Goals as goal

pub respond-requires : goal.respond-requires
respond-requires g c = rw (c.as_slice.ensures, c.in-Ok.is) at c.decide_images-streams.ensures.each

pub returns-in-Ok : goal.returns-in-Ok
returns-in-Ok g c =
    responded c.args.rules.now.items _ c.args.frame.now c.args.review.now c.in-Ok.verdicts _ _ _ c.respond.result.outcome
    (rw (c.as_slice.ensures, c.in-Ok.is) at c.decide_images-streams.ensures.decided) c.respond.ensures

pub returns-in-Err : goal.returns-in-Err
returns-in-Err g c =
    rw c.stop_with.ensures
    (undecided c.args.rules.now.items c.decide_images-streams.new.rules.items c.args.frame.now c.args.review.now c.in-Err.status _ _ (rw (c.as_slice.ensures, c.in-Err.is) at c.decide_images-streams.ensures.decided))
