use Rattle.std.proofs.Common.{Ok, Err, refl}
use Rattle.oci_names.specs.Reference.{whole_text}
use Rattle.engine_answers.specs.Index.{entry_found}
use Rattle.registry_calls.specs.ErrorContext.{with_error_context}
use Rattle.registry_calls.specs.declared.error_context.Called.TheVariants.{Pull}
use Rattle.cosign_rows.specs.Image.{entry_in, entry_row}
use Rattle.cosign_rows.proofs.Exits.{and_then, refused, worded_said, said_at, done}
use Rattle.cosign_pull.proofs.pull.pull_entry.Goals as goal

pub returns-in_err-entry : goal.returns-in_err-entry
unfolding entry_row
returns-in_err-entry g c = λ s. refused _ (said_at (λ t. with_error_context Pull (whole_text c.args.source.now) (entry_found t.platform_resolver c.args.entries.now)) _ c.in_err-entry.ensures) c.from_residual.ensures.1

pub returns-in_err-found : goal.returns-in_err-found
unfolding entry_row
returns-in_err-found g c = λ s. and_then _ (said_at (λ t. with_error_context Pull (whole_text c.args.source.now) (entry_found t.platform_resolver c.args.entries.now)) _ c.in_ok-entry.ensures)
    (refused _ (rw c.as_str.ensures at (c.in_err-found.ensures s)) c.from_residual-in_err-found.ensures.1)

pub returns-in_err-manifest : goal.returns-in_err-manifest
unfolding entry_row
returns-in_err-manifest g c = λ s. and_then _ (said_at (λ t. with_error_context Pull (whole_text c.args.source.now) (entry_found t.platform_resolver c.args.entries.now)) _ c.in_ok-entry.ensures)
    (and_then _ (rw c.as_str.ensures at (c.in_ok-found.ensures s))
    (refused _ (worded_said Pull (whole_text c.args.source.now) c.entry_in-read.result (entry_in c.in_ok-entry.entry c.in_ok-found.found.0) (Err c.in_err-manifest.field-0.0) (rw c.as_str-2.ensures at c.entry_in-read.ensures) c.in_err-manifest.ensures) c.from_residual-in_err-manifest.ensures.1))

pub returns : goal.returns
unfolding entry_row
returns g c = λ s. and_then _ (said_at (λ t. with_error_context Pull (whole_text c.args.source.now) (entry_found t.platform_resolver c.args.entries.now)) _ c.in_ok-entry.ensures)
    (and_then _ (rw c.as_str.ensures at (c.in_ok-found.ensures s))
    (and_then _ (worded_said Pull (whole_text c.args.source.now) c.entry_in-read.result (entry_in c.in_ok-entry.entry c.in_ok-found.found.0) (Ok c.in_ok-manifest.manifest) (rw c.as_str-2.ensures at c.entry_in-read.ensures) c.in_ok-manifest.ensures) done))
