use Rattle.oci_protocol.proofs.Exits.{and_then, passed_on}
use Rattle.engine_rows.proofs.Exits.{wanting, stores_as}
use Rattle.engine_rows.specs.Pulls.{pull_manifest_raw}
use Rattle.engine_pull.proofs.documents.pull_manifest_raw.Goals as goal

pub returns-in_err-store : goal.returns-in_err-store
returns-in_err-store g c = rw c.in_err-store.ensures.err (wanting c.from_residual.ensures.1)

pub returns-in_err-found : goal.returns-in_err-found
unfolding pull_manifest_raw
returns-in_err-found g c = and_then _ (stores_as _ _ _ _ _ c.in_ok-store.ensures.ok c.resolve_registry.ensures) (passed_on c.in_err-found.ensures c.from_residual-in_err-found.ensures.1)

pub returns : goal.returns
unfolding pull_manifest_raw
returns g c = and_then _ (stores_as _ _ _ _ _ c.in_ok-store.ensures.ok c.resolve_registry.ensures) c.in_ok-found.ensures
