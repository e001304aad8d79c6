use Rattle.std.proofs.Common.{refl}
use Rattle.oci_protocol.proofs.Exits.{refused, and_then, said}
use Rattle.engine_rows.proofs.Exits.{wanting}
use Rattle.engine_pull.proofs.Layers.{held_as}
use Rattle.engine_terms.specs.Contexts.{context_of}
use Rattle.engine_pull.proofs.ImageParts.{parts_refused}
use Rattle.engine_pull.proofs.image.pull_parts.Goals as goal

pub returns-in_err-content : goal.returns-in_err-content
returns-in_err-content g c = λ next. parts_refused (context_of c.args.call.now) c.args.call.now.image.now c.args.accepted.now c.args.manifest.now next _ c.from_residual.ensures.1 (refused _ (held_as _ _ c.as_layer_descriptor-blob.ensures c.in_err-content.ensures) refl)

pub returns-in_err-config : goal.returns-in_err-config
returns-in_err-config g c = λ next. parts_refused (context_of c.args.call.now) c.args.call.now.image.now c.args.accepted.now c.args.manifest.now next _ c.from_residual-in_err-config.ensures.1 (and_then _ (held_as _ _ c.as_layer_descriptor-blob.ensures c.in_ok-content.ensures) (wanting refl))

pub returns-in_err-layers_accepted : goal.returns-in_err-layers_accepted
returns-in_err-layers_accepted g c = λ next. parts_refused (context_of c.args.call.now) c.args.call.now.image.now c.args.accepted.now c.args.manifest.now next _ c.from_residual-in_err-layers_accepted.ensures.1 (and_then _ (held_as _ _ c.as_layer_descriptor-blob.ensures c.in_ok-content.ensures) (refused _ (said _ (rw c.as_slice.ensures at c.in_err-layers_accepted.ensures)) refl))

pub returns-in_err-layers : goal.returns-in_err-layers
returns-in_err-layers g c = λ next. parts_refused (context_of c.args.call.now) c.args.call.now.image.now c.args.accepted.now c.args.manifest.now next _ c.from_residual-in_err-layers.ensures.1 (and_then _ (held_as _ _ c.as_layer_descriptor-blob.ensures c.in_ok-content.ensures) (and_then _ (said _ (rw c.as_slice.ensures at c.in_ok-layers_accepted.ensures)) (refused _ (rw (c.as_slice-2.ensures, c.new.ensures) at c.in_err-layers.ensures) refl)))

pub returns : goal.returns
returns g c = λ next end j r after. and_then _ (held_as _ _ c.as_layer_descriptor-blob.ensures c.in_ok-content.ensures) (and_then _ (said _ (rw c.as_slice.ensures at c.in_ok-layers_accepted.ensures)) (and_then _ (rw (c.as_slice-2.ensures, c.new.ensures) at c.in_ok-layers.ensures) (rw c.in_ok-config.ensures at after)))
