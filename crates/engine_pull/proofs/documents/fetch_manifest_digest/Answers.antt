use Rattle.oci_protocol.proofs.Exits.{refused, and_then, said, passed_on}
use Rattle.engine_rows.proofs.Exits.{wanting, stores_as}
use Rattle.engine_rows.specs.Pulls.{fetch_manifest_digest}
use Rattle.engine_pull.proofs.documents.fetch_manifest_digest.Goals as goal

pub returns-in_err-store : goal.returns-in_err-store
returns-in_err-store g c = rw c.in_err-store.ensures.err (wanting c.from_residual.ensures.1)

pub returns-in_err-url : goal.returns-in_err-url
unfolding fetch_manifest_digest
returns-in_err-url g c = and_then _ (stores_as _ _ _ _ _ c.in_ok-store.ensures.ok c.resolve_registry.ensures) (refused _ (said _ c.in_err-url.ensures) c.from_residual-in_err-url.ensures.1)

pub returns-in_err-request : goal.returns-in_err-request
unfolding fetch_manifest_digest
returns-in_err-request g c = and_then _ (stores_as _ _ _ _ _ c.in_ok-store.ensures.ok c.resolve_registry.ensures) (and_then _ (said _ c.in_ok-url.ensures) (refused _ c.in_err-request.ensures c.from_residual-in_err-request.ensures.1))

pub returns-in_err-named : goal.returns-in_err-named
unfolding fetch_manifest_digest
returns-in_err-named g c = and_then _ (stores_as _ _ _ _ _ c.in_ok-store.ensures.ok c.resolve_registry.ensures) (and_then _ (said _ c.in_ok-url.ensures) (and_then _ c.in_ok-request.ensures (refused _ (c.in_err-named.ensures.run _) c.from_residual-in_err-named.ensures.1)))

pub returns-in_err-digest : goal.returns-in_err-digest
unfolding fetch_manifest_digest
returns-in_err-digest g c = and_then _ (stores_as _ _ _ _ _ c.in_ok-store.ensures.ok c.resolve_registry.ensures) (and_then _ (said _ c.in_ok-url.ensures) (and_then _ c.in_ok-request.ensures (and_then _ (c.in_ok-named.ensures.run _) (passed_on c.in_err-digest.ensures c.from_residual-in_err-digest.ensures.1))))

pub returns : goal.returns
unfolding fetch_manifest_digest
returns g c = and_then _ (stores_as _ _ _ _ _ c.in_ok-store.ensures.ok c.resolve_registry.ensures) (and_then _ (said _ c.in_ok-url.ensures) (and_then _ c.in_ok-request.ensures (and_then _ (c.in_ok-named.ensures.run _) c.in_ok-digest.ensures)))
