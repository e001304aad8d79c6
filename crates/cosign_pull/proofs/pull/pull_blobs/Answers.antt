use Rattle.std.proofs.Common.{Ok, Err, refl}
use Rattle.oci_names.specs.Reference.{whole_text}
use Rattle.engine_rows.specs.Image.{layers_accepted}
use Rattle.registry_calls.specs.declared.error_context.Called.TheVariants.{Pull}
use Rattle.cosign_rows.specs.Image.{blobs_row}
use Rattle.cosign_rows.proofs.Exits.{and_then, refused, wanting, worded_said, done}
use Rattle.cosign_pull.proofs.pull.pull_blobs.Goals as goal

pub returns-in_err-content : goal.returns-in_err-content
unfolding blobs_row
returns-in_err-content g c = λ s. refused _ (c.in_err-content.ensures.run s) c.from_residual.ensures.1

pub returns-in_err-with_error_context : goal.returns-in_err-with_error_context
unfolding blobs_row
returns-in_err-with_error_context g c = λ s. and_then _ (c.in_ok-content.ensures.run s)
    (refused _ (worded_said Pull (whole_text c.args.source.now) c.layers_accepted-checked.result (layers_accepted c.args.accepted.now c.args.manifest.now.layers) (Err c.in_err-with_error_context.field-0.0) (rw c.as_slice-descriptors.ensures at c.layers_accepted-checked.ensures) c.in_err-with_error_context.ensures) c.from_residual-in_err-with_error_context.ensures.1)

pub returns-in_err-layers : goal.returns-in_err-layers
unfolding blobs_row
returns-in_err-layers g c = λ s. and_then _ (c.in_ok-content.ensures.run s)
    (and_then _ (worded_said Pull (whole_text c.args.source.now) c.layers_accepted-checked.result (layers_accepted c.args.accepted.now c.args.manifest.now.layers) (Ok c.in_ok-with_error_context.field-0) (rw c.as_slice-descriptors.ensures at c.layers_accepted-checked.ensures) c.in_ok-with_error_context.ensures)
    (refused _ (rw (c.as_slice-descriptors.ensures, c.new.ensures) at (c.in_err-layers.ensures s)) c.from_residual-in_err-layers.ensures.1))

pub returns-in_err-config : goal.returns-in_err-config
unfolding blobs_row
returns-in_err-config g c = λ s. and_then _ (c.in_ok-content.ensures.run s)
    (and_then _ (worded_said Pull (whole_text c.args.source.now) c.layers_accepted-checked.result (layers_accepted c.args.accepted.now c.args.manifest.now.layers) (Ok c.in_ok-with_error_context.field-0) (rw c.as_slice-descriptors.ensures at c.layers_accepted-checked.ensures) c.in_ok-with_error_context.ensures)
    (and_then _ (rw (c.as_slice-descriptors.ensures, c.new.ensures) at (c.in_ok-layers.ensures s)) (wanting _ refl c.from_residual-in_err-config.ensures.1)))

pub returns : goal.returns
unfolding blobs_row
returns g c = λ s. and_then _ (c.in_ok-content.ensures.run s)
    (and_then _ (worded_said Pull (whole_text c.args.source.now) c.layers_accepted-checked.result (layers_accepted c.args.accepted.now c.args.manifest.now.layers) (Ok c.in_ok-with_error_context.field-0) (rw c.as_slice-descriptors.ensures at c.layers_accepted-checked.ensures) c.in_ok-with_error_context.ensures)
    (and_then _ (rw (c.as_slice-descriptors.ensures, c.new.ensures) at (c.in_ok-layers.ensures s)) (rw c.in_ok-config.ensures done)))
