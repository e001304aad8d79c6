use Rattle.oci_protocol.proofs.Exits.{refused, and_then, said, passed_on}
use Rattle.engine_rows.specs.Offers.{tried}
use Rattle.engine_rows.specs.Pulls.{blob_to}
use Rattle.engine_pull.proofs.blobs.pulled_blob.Goals as goal

pub returns-in_err-url : goal.returns-in_err-url
unfolding blob_to
returns-in_err-url g c = refused _ (said _ c.in_err-url.ensures) c.from_residual.ensures.1

pub returns-in_err-request : goal.returns-in_err-request
unfolding blob_to
returns-in_err-request g c = and_then _ (said _ c.in_ok-url.ensures) (refused _ c.in_err-request.ensures c.from_residual-in_err-request.ensures.1)

pub returns-in_err-bytes-in-Some : goal.returns-in_err-bytes-in-Some
unfolding blob_to
returns-in_err-bytes-in-Some g c = rw c.in-Some.is (and_then _ (said _ c.in_ok-url.ensures) (and_then _ c.in_ok-request.ensures (passed_on (rw c.as_slice-urls.ensures at (c.in_err-bytes-in-Some.ensures c.prepared.new.memory)) c.from_residual-in_err-bytes-in-Some.ensures.1)))

pub returns-in-Some : goal.returns-in-Some
unfolding blob_to
returns-in-Some g c = rw c.in-Some.is (and_then _ (said _ c.in_ok-url.ensures) (and_then _ c.in_ok-request.ensures (rw c.as_slice-urls.ensures at (c.in_ok-bytes-in-Some.ensures c.prepared.new.memory))))

pub returns-in_err-bytes-in-None : goal.returns-in_err-bytes-in-None
unfolding blob_to tried
returns-in_err-bytes-in-None g c = rw c.in-None.is (and_then _ (said _ c.in_ok-url.ensures) (and_then _ c.in_ok-request.ensures (passed_on (c.in_err-bytes-in-None.ensures _) c.from_residual-in_err-bytes-in-None.ensures.1)))

pub returns : goal.returns
unfolding blob_to tried
returns g c = rw c.in-None.is (and_then _ (said _ c.in_ok-url.ensures) (and_then _ c.in_ok-request.ensures (c.in_ok-bytes-in-None.ensures _)))
