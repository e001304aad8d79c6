use Rattle.oci_protocol.proofs.Exits.{refused, and_then, said, done}
use Rattle.engine_rows.specs.Pulls.{pull_manifest}
use Rattle.engine_pull.proofs.documents.pull_manifest.Goals as goal

pub returns-in_err-found : goal.returns-in_err-found
unfolding pull_manifest
returns-in_err-found g c = refused _ c.in_err-found.ensures c.from_residual.ensures.1

pub returns-in_err-document : goal.returns-in_err-document
unfolding pull_manifest
returns-in_err-document g c = and_then _ c.in_ok-found.ensures (refused _ (said _ c.in_err-document.ensures) c.from_residual-in_err-document.ensures.1)

pub returns : goal.returns
unfolding pull_manifest
returns g c = and_then _ c.in_ok-found.ensures (and_then _ (said _ c.in_ok-document.ensures) done)
