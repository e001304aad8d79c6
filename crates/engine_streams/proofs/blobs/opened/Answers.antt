use Rattle.oci_protocol.proofs.Exits.{refused, and_then, said, passed_on}
use Rattle.engine_steps.proofs.HelperTrees.{not_ok}
use Rattle.engine_streams.proofs.NextPlaces.{left_more, met_told}
use Rattle.engine_streams.specs.Blobs.{opened}
use Rattle.engine_streams.proofs.blobs.opened.Goals as goal

pub returns-in_err-text : goal.returns-in_err-text
unfolding opened
returns-in_err-text g c = record { run = refused _ (said _ c.in_err-text.ensures) c.from_residual.ensures.1; left = not_ok _ _ _ c.from_residual.ensures.1 }

pub returns-in_err-url : goal.returns-in_err-url
unfolding opened
returns-in_err-url g c = record { run = and_then _ (said _ c.in_ok-text.ensures) (refused _ (said _ c.in_err-url.ensures) c.from_residual-in_err-url.ensures.1); left = not_ok _ _ _ c.from_residual-in_err-url.ensures.1 }

pub returns-in_err-request : goal.returns-in_err-request
unfolding opened
returns-in_err-request g c = record { run = and_then _ (said _ c.in_ok-text.ensures) (and_then _ (said _ c.in_ok-url.ensures) (refused _ c.in_err-request.ensures c.from_residual-in_err-request.ensures.1)); left = not_ok _ _ _ c.from_residual-in_err-request.ensures.1 }

pub returns-in_err-ranged : goal.returns-in_err-ranged
unfolding opened
returns-in_err-ranged g c = record { run = and_then _ (said _ c.in_ok-text.ensures) (and_then _ (said _ c.in_ok-url.ensures) (and_then _ c.in_ok-request.ensures (refused _ (said _ c.in_err-ranged.ensures) c.from_residual-in_err-ranged.ensures.1))); left = not_ok _ _ _ c.from_residual-in_err-ranged.ensures.1 }

pub returns-in_err-opening : goal.returns-in_err-opening
unfolding opened
returns-in_err-opening g c = record { run = and_then _ (said _ c.in_ok-text.ensures) (and_then _ (said _ c.in_ok-url.ensures) (and_then _ c.in_ok-request.ensures (and_then _ (said _ c.in_ok-ranged.ensures) (passed_on (rw c.urls_of.ensures at (c.in_err-opening.ensures.run c.prepared.new.memory)) c.from_residual-in_err-opening.ensures.1)))); left = not_ok _ _ _ c.from_residual-in_err-opening.ensures.1 }

pub returns : goal.returns
unfolding opened
returns g c = record { run = and_then _ (said _ c.in_ok-text.ensures) (and_then _ (said _ c.in_ok-url.ensures) (and_then _ c.in_ok-request.ensures (and_then _ (said _ c.in_ok-ranged.ensures) (rw c.urls_of.ensures at (c.in_ok-opening.ensures.run c.prepared.new.memory))))); left = left_more (met_told c.in_ok-request.ensures) c.in_ok-opening.ensures.left }
