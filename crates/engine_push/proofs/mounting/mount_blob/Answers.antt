use Rattle.oci_protocol.proofs.Exits.{refused, and_then, said, done}
use Rattle.engine_rows.proofs.Exits.{wanting}
use Rattle.push_rows.specs.Calls.{mount_blob}
use Rattle.engine_push.proofs.mounting.mount_blob.Goals as goal

pub returns-in_err-uploads : goal.returns-in_err-uploads
unfolding mount_blob
returns-in_err-uploads g c = refused _ (said _ c.in_err-uploads.ensures) c.from_residual.ensures.1

pub returns-in_err-url : goal.returns-in_err-url
unfolding mount_blob
returns-in_err-url g c = and_then _ (said _ c.in_ok-uploads.ensures) (wanting c.from_residual-in_err-url.ensures.1)

pub returns-in_err-sent : goal.returns-in_err-sent
unfolding mount_blob
returns-in_err-sent g c = and_then _ (said _ c.in_ok-uploads.ensures) (refused _ (rw c.in_ok-url.ensures at c.in_err-sent.ensures.run) c.from_residual-in_err-sent.ensures.1)

pub returns : goal.returns
unfolding mount_blob
returns g c = and_then _ (said _ c.in_ok-uploads.ensures) (and_then _ (rw c.in_ok-url.ensures at c.in_ok-sent.ensures.run) done)
