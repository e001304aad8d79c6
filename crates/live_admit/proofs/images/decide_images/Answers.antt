use Rattle.live_admit.proofs.Decisions.{all_decided, ended_images, one_judged, one_more}
use Rattle.live_admit.proofs.images.decide_images.Goals as goal

pub returns-in-Err-clause-decided : goal.returns-in-Err-clause-decided
returns-in-Err-clause-decided g c =
    rw c.ended.ensures
    (ended_images c.args.rules.now.items c.loop-image.rules.items c.args.moment c.args.images.now c.in-Some.more.now c.in-Some.image.now c.loop-image.verdicts c.in-Err.status c.decide_image-judged.new.rules.items _ _ _
    (rw c.in-Some.ensures.cases.0 at c.loop-image.invariant.0) (rw c.in-Err.is at c.decide_image-judged.ensures))

pub loop-image-preserved : goal.loop-image-preserved
loop-image-preserved g c = (
  one_more c.args.rules.now.items c.loop-image.rules.items c.decide_image-judged.new.rules.items c.args.moment c.args.images.now c.in-Some.more.now c.in-Some.image.now c.loop-image.verdicts c.push.new.self c.in-Ok.verdict _ _ _
      (rw c.in-Some.ensures.cases.0 at c.loop-image.invariant.0) (rw c.in-Ok.is at c.decide_image-judged.ensures) c.in-Ok-push.ensures.ok,
  one_judged c.loop-image.verdicts c.push.new.self c.in-Ok.verdict c.loop-image.rest.now c.in-Some.more.now c.args.images.now c.in-Some.image.now c.in-Ok-push.ensures.ok c.in-Some.ensures.cases.0 c.loop-image.invariant.1,
)

pub returns-clause-decided : goal.returns-clause-decided
returns-clause-decided g c = all_decided c.args.rules.now.items c.loop-image.rules.items _ _ _ _ _ _ c.in_default.ensures.cases c.loop-image.invariant.0
