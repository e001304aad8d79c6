use Rattle.oci_protocol.proofs.Exits.{passed_on}
use Rattle.engine_push.proofs.manifests.push_written.Goals as goal

pub returns-in_err-url : goal.returns-in_err-url
returns-in_err-url g c = passed_on (rw c.as_str.ensures at c.in_err-url.ensures) c.from_residual.ensures.1

pub returns : goal.returns
returns g c = rw c.as_str.ensures at c.in_ok-url.ensures
