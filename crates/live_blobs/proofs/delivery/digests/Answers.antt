use Rattle.live_blobs.proofs.Listed.{listed_next}
use Rattle.live_blobs.proofs.delivery.digests.Goals as goal

pub loop-at-preserved : goal.loop-at-preserved
loop-at-preserved c = rw (c.in_ok-push.ensures.ok, c.in_ok-digest.ensures) (listed_next _ _ _ _ _ _ c.loop-at-test.true c.in-Some.ensures c.loop-at.invariant)
