use Rattle.oci_protocol.proofs.Exits.{refused, and_then, done}
use Rattle.engine_rows.specs.Image.{pull}
use Rattle.engine_pull.proofs.ImageParts.{image_with}
use Rattle.engine_pull.proofs.image.pull.Goals as goal

pub returns-in_err-found : goal.returns-in_err-found
unfolding pull
returns-in_err-found g c = refused _ c.in_err-found.ensures c.from_residual.ensures.1

pub returns-in-Ok : goal.returns-in-Ok
unfolding pull
returns-in-Ok g c = and_then _ c.in_ok-found.ensures (c.in-Ok.ensures (image_with c.in_ok-found.found.0 c.in_ok-found.found.1) _ _ _ done)

pub returns : goal.returns
unfolding pull
returns g c = and_then _ c.in_ok-found.ensures (c.in-Err.ensures (image_with c.in_ok-found.found.0 c.in_ok-found.found.1))
