use Rattle.oci_protocol.proofs.Exits.{passed_on}
use Rattle.engine_rows.proofs.Exits.{wanting}
use Rattle.engine_push.proofs.manifests.push_manifest.Goals as goal

pub returns-in_err-document : goal.returns-in_err-document
returns-in_err-document g c = wanting c.from_residual.ensures.1

pub returns-in_err-url : goal.returns-in_err-url
returns-in_err-url g c = passed_on (rw (c.in_ok-document.ensures.body, c.in_ok-document.ensures.media_type) at c.in_err-url.ensures) c.from_residual-in_err-url.ensures.1

pub returns : goal.returns
returns g c = rw (c.in_ok-document.ensures.body, c.in_ok-document.ensures.media_type) at c.in_ok-url.ensures
