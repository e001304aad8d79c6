use Rattle.oci_protocol.proofs.Exits.{refused, and_then, done}
use Rattle.engine_rows.specs.Manifests.{pull_image_manifest}
use Rattle.engine_pull.proofs.manifests.pull_image_manifest.Goals as goal

pub returns-in_err-found : goal.returns-in_err-found
unfolding pull_image_manifest
returns-in_err-found g c = refused _ c.in_err-found.ensures c.from_residual.ensures.1

pub returns : goal.returns
unfolding pull_image_manifest
returns g c = and_then _ c.in_ok-found.ensures done
