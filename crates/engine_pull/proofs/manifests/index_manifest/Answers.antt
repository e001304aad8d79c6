use Rattle.oci_protocol.proofs.Exits.{refused, and_then, said, done}
use Rattle.engine_pull.proofs.manifests.index_manifest.Goals as goal

pub returns-in_err-entry : goal.returns-in_err-entry
returns-in_err-entry g c = refused _ (said _ (rw c.as_slice.ensures at c.in_err-entry.ensures)) c.from_residual.ensures.1

pub returns-in_err-manifest : goal.returns-in_err-manifest
returns-in_err-manifest g c = and_then _ (said _ (rw c.as_slice.ensures at c.in_ok-entry.ensures)) (refused _ (rw c.as_str.ensures at c.in_err-manifest.ensures) c.from_residual-in_err-manifest.ensures.1)

pub returns : goal.returns
returns g c = and_then _ (said _ (rw c.as_slice.ensures at c.in_ok-entry.ensures)) (and_then _ (rw c.as_str.ensures at c.in_ok-manifest.ensures) done)
