use Rattle.oci_protocol.proofs.Exits.{and_then, passed_on}
use Rattle.engine_rows.proofs.Exits.{wanting, stores_as}
use Rattle.push_rows.specs.Images.{push_manifest_list}
use Rattle.engine_push.proofs.manifests.push_manifest_list.Goals as goal

pub returns-in_err-document : goal.returns-in_err-document
returns-in_err-document g c = wanting c.from_residual.ensures.1

pub returns-in_err-store : goal.returns-in_err-store
returns-in_err-store g c = rw c.in_err-store.ensures.err (wanting c.from_residual-in_err-store.ensures.1)

pub returns-in_err-url : goal.returns-in_err-url
unfolding push_manifest_list
returns-in_err-url g c = and_then _ (stores_as _ _ _ _ _ c.in_ok-store.ensures.ok c.resolve_registry.ensures) (passed_on (rw (c.in_ok-document.ensures.body, c.in_ok-document.ensures.media_type) at c.in_err-url.ensures) c.from_residual-in_err-url.ensures.1)

pub returns : goal.returns
unfolding push_manifest_list
returns g c = and_then _ (stores_as _ _ _ _ _ c.in_ok-store.ensures.ok c.resolve_registry.ensures) (rw (c.in_ok-document.ensures.body, c.in_ok-document.ensures.media_type) at c.in_ok-url.ensures)
