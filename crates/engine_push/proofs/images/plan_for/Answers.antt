use Rattle.engine_push.proofs.images.plan_for.Goals as goal

pub returns : goal.returns
returns c = record { digests = rw c.as_slice.ensures at c.in_ok-digests.ensures; config_digest = c.in_ok-config_digest.ensures; document = c.in_ok-document.ensures }
