use Rattle.oci_protocol.proofs.Exits.{refused, and_then, said, passed_on}
use Rattle.engine_rows.proofs.Exits.{wanting, stores_as}
use Rattle.engine_pull.specs.Listings.{listed}
use Rattle.engine_pull.proofs.lists.list_tags.Goals as goal

pub returns-in_err-store : goal.returns-in_err-store
returns-in_err-store g c = rw c.in_err-store.ensures.err (wanting c.from_residual.ensures.1)

pub returns-in_err-text : goal.returns-in_err-text
unfolding listed
returns-in_err-text g c = and_then _ (stores_as _ _ _ _ _ c.in_ok-store.ensures.ok c.resolve_registry.ensures) (wanting c.from_residual-in_err-text.ensures.1)

pub returns-in_err-read : goal.returns-in_err-read
unfolding listed
returns-in_err-read g c = and_then _ (stores_as _ _ _ _ _ c.in_ok-store.ensures.ok c.resolve_registry.ensures) (refused _ (said _ (rw c.in_ok-text.ensures at c.in_err-read.ensures)) c.from_residual-in_err-read.ensures.1)

pub returns-in_err-url : goal.returns-in_err-url
unfolding listed
returns-in_err-url g c = and_then _ (stores_as _ _ _ _ _ c.in_ok-store.ensures.ok c.resolve_registry.ensures) (and_then _ (said _ (rw c.in_ok-text.ensures at c.in_ok-read.ensures)) (wanting c.from_residual-in_err-url.ensures.1))

pub returns-in_err-body : goal.returns-in_err-body
unfolding listed
returns-in_err-body g c = and_then _ (stores_as _ _ _ _ _ c.in_ok-store.ensures.ok c.resolve_registry.ensures) (and_then _ (said _ (rw c.in_ok-text.ensures at c.in_ok-read.ensures)) (refused _ (rw c.in_ok-url.ensures at c.in_err-body.ensures) c.from_residual-in_err-body.ensures.1))

pub returns-in_err-tags : goal.returns-in_err-tags
unfolding listed
returns-in_err-tags g c = and_then _ (stores_as _ _ _ _ _ c.in_ok-store.ensures.ok c.resolve_registry.ensures) (and_then _ (said _ (rw c.in_ok-text.ensures at c.in_ok-read.ensures)) (and_then _ (rw c.in_ok-url.ensures at c.in_ok-body.ensures) (passed_on (said _ c.in_err-tags.ensures) c.from_residual-in_err-tags.ensures.1)))

pub returns : goal.returns
unfolding listed
returns g c = and_then _ (stores_as _ _ _ _ _ c.in_ok-store.ensures.ok c.resolve_registry.ensures) (and_then _ (said _ (rw c.in_ok-text.ensures at c.in_ok-read.ensures)) (and_then _ (rw c.in_ok-url.ensures at c.in_ok-body.ensures) (said _ c.in_ok-tags.ensures)))
