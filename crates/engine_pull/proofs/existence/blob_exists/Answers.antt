use Rattle.oci_protocol.proofs.Exits.{refused, and_then, said, passed_on}
use Rattle.engine_pull.specs.Listings.{blob_exists}
use Rattle.engine_pull.proofs.existence.blob_exists.Goals as goal

pub returns-in_err-url : goal.returns-in_err-url
unfolding blob_exists
returns-in_err-url g c = refused _ (said _ c.in_err-url.ensures) c.from_residual.ensures.1

pub returns-in_err-request : goal.returns-in_err-request
unfolding blob_exists
returns-in_err-request g c = and_then _ (said _ c.in_ok-url.ensures) (refused _ c.in_err-request.ensures c.from_residual-in_err-request.ensures.1)

pub returns-in_err-there : goal.returns-in_err-there
unfolding blob_exists
returns-in_err-there g c = and_then _ (said _ c.in_ok-url.ensures) (and_then _ c.in_ok-request.ensures (passed_on (c.in_err-there.ensures _) c.from_residual-in_err-there.ensures.1))

pub returns : goal.returns
unfolding blob_exists
returns g c = and_then _ (said _ c.in_ok-url.ensures) (and_then _ c.in_ok-request.ensures (c.in_ok-there.ensures _))
