use Rattle.oci_protocol.proofs.Exits.{refused, and_then, said, passed_on}
use Rattle.engine_rows.proofs.Exits.{wanting}
use Rattle.engine_rows.specs.Manifests.{pull_entry}
use Rattle.engine_pull.proofs.manifests.pull_entry.Goals as goal

pub returns-in_err-image : goal.returns-in_err-image
returns-in_err-image g c = wanting c.from_residual.ensures.1

pub returns-in_err-found : goal.returns-in_err-found
unfolding pull_entry
returns-in_err-found g c = refused _ (rw c.in_ok-image.ensures at c.in_err-found.ensures) c.from_residual-in_err-found.ensures.1

pub returns-in_err-manifest : goal.returns-in_err-manifest
unfolding pull_entry
returns-in_err-manifest g c = and_then _ (rw c.in_ok-image.ensures at c.in_ok-found.ensures) (passed_on (said _ c.in_err-manifest.ensures) c.from_residual-in_err-manifest.ensures.1)

pub returns : goal.returns
unfolding pull_entry
returns g c = and_then _ (rw c.in_ok-image.ensures at c.in_ok-found.ensures) (said _ c.in_ok-manifest.ensures)
