use Rattle.oci_protocol.proofs.Exits.{refused, and_then, said, passed_on}
use Rattle.engine_rows.specs.Pulls.{manifest_document}
use Rattle.engine_pull.proofs.documents.manifest_document.Goals as goal

pub returns-in_err-url : goal.returns-in_err-url
unfolding manifest_document
returns-in_err-url g c = refused _ (said _ c.in_err-url.ensures) c.from_residual.ensures.1

pub returns-in_err-found : goal.returns-in_err-found
unfolding manifest_document
returns-in_err-found g c = and_then _ (said _ c.in_ok-url.ensures) (passed_on c.in_err-found.ensures c.from_residual-in_err-found.ensures.1)

pub returns : goal.returns
unfolding manifest_document
returns g c = and_then _ (said _ c.in_ok-url.ensures) c.in_ok-found.ensures
