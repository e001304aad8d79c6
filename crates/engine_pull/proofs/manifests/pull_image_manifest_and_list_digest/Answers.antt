use Rattle.oci_protocol.proofs.Exits.{refused, passed_on, and_then}
use Rattle.engine_rows.specs.Manifests.{pull_image_manifest_and_list_digest}
use Rattle.engine_pull.proofs.manifests.pull_image_manifest_and_list_digest.Goals as goal

pub returns-in_err-document : goal.returns-in_err-document
unfolding pull_image_manifest_and_list_digest
returns-in_err-document g c = refused _ c.in_err-document.ensures c.from_residual.ensures.1

pub returns-in_err-found : goal.returns-in_err-found
unfolding pull_image_manifest_and_list_digest
returns-in_err-found g c = and_then _ c.in_ok-document.ensures (passed_on c.in_err-found.ensures c.from_residual-in_err-found.ensures.1)

pub returns : goal.returns
unfolding pull_image_manifest_and_list_digest
returns g c = and_then _ c.in_ok-document.ensures c.in_ok-found.ensures
