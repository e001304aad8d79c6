use Rattle.oci_protocol.proofs.Laws.{Meets-refused}
use Rattle.oci_protocol.proofs.Exits.{said}
use Rattle.engine_pull.proofs.AttemptSteps.{spills_next, spills_on}
use Rattle.engine_rows.specs.Offers.{tried}
use Rattle.engine_rows.specs.Pulls.{blob_to}
use Rattle.engine_pull.proofs.NoSink.{spills_refused, done_calm, read_calm, prepared_calm}
use Rattle.engine_pull.proofs.blobs.pull_blob.Goals as goal

pub returns-in_err-url : goal.returns-in_err-url
unfolding blob_to
returns-in_err-url g c = spills_refused _ _ (done_calm _ (read_calm _)) (said _ c.in_err-url.ensures) (Meets-refused _ (said _ c.in_err-url.ensures)) c.from_residual.ensures.1

pub returns-in_err-request : goal.returns-in_err-request
unfolding blob_to
returns-in_err-request g c = spills_next _ (said _ c.in_ok-url.ensures) (spills_refused _ _ (prepared_calm _ _ _ _ _ _) c.in_err-request.ensures (Meets-refused _ c.in_err-request.ensures) c.from_residual-in_err-request.ensures.1)

pub returns-in_err-tried-in-Some : goal.returns-in_err-tried-in-Some
unfolding blob_to
returns-in_err-tried-in-Some g c = rw c.in-Some.is (spills_next _ (said _ c.in_ok-url.ensures) (spills_next _ c.in_ok-request.ensures (spills_on (rw c.as_slice.ensures at (c.in_err-tried-in-Some.ensures c.prepared.new.memory)) c.from_residual-in_err-tried-in-Some.ensures.1)))

pub returns-in-Some : goal.returns-in-Some
unfolding blob_to
returns-in-Some g c = rw c.in-Some.is (spills_next _ (said _ c.in_ok-url.ensures) (spills_next _ c.in_ok-request.ensures (rw c.as_slice.ensures at (c.in_ok-tried-in-Some.ensures c.prepared.new.memory))))

pub returns-in_err-attempt-in-None : goal.returns-in_err-attempt-in-None
unfolding blob_to tried
returns-in_err-attempt-in-None g c = rw c.in-None.is (spills_next _ (said _ c.in_ok-url.ensures) (spills_next _ c.in_ok-request.ensures (spills_on (c.in_err-attempt-in-None.ensures _) c.from_residual-in_err-attempt-in-None.ensures.1)))

pub returns : goal.returns
unfolding blob_to tried
returns g c = rw c.in-None.is (spills_next _ (said _ c.in_ok-url.ensures) (spills_next _ c.in_ok-request.ensures (c.in_ok-attempt-in-None.ensures _)))
