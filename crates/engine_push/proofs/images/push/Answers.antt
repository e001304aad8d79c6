use Rattle.oci_protocol.proofs.Exits.{and_then, passed_on}
use Rattle.engine_rows.proofs.Exits.{wanting, stores_as}
use Rattle.push_rows.specs.Images.{push}
use Rattle.engine_push.proofs.images.push.Goals as goal

pub returns-in_err-manifest : goal.returns-in_err-manifest
returns-in_err-manifest g c = wanting c.from_residual.ensures.1

pub returns-in_err-plan : goal.returns-in_err-plan
returns-in_err-plan g c = wanting c.from_residual-in_err-plan.ensures.1

pub returns-in_err-store : goal.returns-in_err-store
returns-in_err-store g c = rw c.in_err-store.ensures.err (wanting c.from_residual-in_err-store.ensures.1)

pub returns-in_err-pushed : goal.returns-in_err-pushed
unfolding push
returns-in_err-pushed g c = and_then _ (stores_as _ _ _ _ _ c.in_ok-store.ensures.ok c.resolve_registry.ensures) (passed_on (c.in_err-pushed.ensures _ (rw c.in_ok-manifest.ensures at c.in_ok-plan.ensures)) c.from_residual-in_err-pushed.ensures.1)

pub returns : goal.returns
unfolding push
returns g c = and_then _ (stores_as _ _ _ _ _ c.in_ok-store.ensures.ok c.resolve_registry.ensures) (c.in_ok-pushed.ensures _ (rw c.in_ok-manifest.ensures at c.in_ok-plan.ensures))
