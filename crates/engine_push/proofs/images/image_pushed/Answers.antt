use Rattle.std.proofs.Common.{refl}
use Rattle.oci_protocol.proofs.Exits.{refused, and_then, done}
use Rattle.push_rows.specs.Images.{image_pushed}
use Rattle.engine_push.proofs.images.image_pushed.Goals as goal

pub returns-in_err-layers_pushed : goal.returns-in_err-layers_pushed
unfolding image_pushed
returns-in_err-layers_pushed g c = λ manifest plan. refused _ (rw (c.as_slice.ensures, plan.digests) at c.in_err-layers_pushed.ensures) c.from_residual.ensures.1

pub returns-in_err-config_url : goal.returns-in_err-config_url
unfolding image_pushed
returns-in_err-config_url g c = λ manifest plan. and_then _ (rw (c.as_slice.ensures, plan.digests) at c.in_ok-layers_pushed.ensures) (refused _ (rw (c.as_slice-content.ensures, c.as_str-digest.ensures, plan.config_digest) at c.in_err-config_url.ensures) c.from_residual-in_err-config_url.ensures.1)

pub returns-in_err-manifest_url : goal.returns-in_err-manifest_url
unfolding image_pushed
returns-in_err-manifest_url g c = λ manifest plan. and_then _ (rw (c.as_slice.ensures, plan.digests) at c.in_ok-layers_pushed.ensures) (and_then _ (rw (c.as_slice-content.ensures, c.as_str-digest.ensures, plan.config_digest) at c.in_ok-config_url.ensures) (refused _ (rw (plan.document.body, plan.document.media_type) at c.in_err-manifest_url.ensures) c.from_residual-in_err-manifest_url.ensures.1))

pub same-config_url : goal.same-config_url
same-config_url g c = refl

pub returns : goal.returns
unfolding image_pushed
returns g c = λ manifest plan. and_then _ (rw (c.as_slice.ensures, plan.digests) at c.in_ok-layers_pushed.ensures) (and_then _ (rw (c.as_slice-content.ensures, c.as_str-digest.ensures, plan.config_digest) at c.in_ok-config_url.ensures) (and_then _ (rw (plan.document.body, plan.document.media_type) at c.in_ok-manifest_url.ensures) done))
