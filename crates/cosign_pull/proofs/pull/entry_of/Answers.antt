use Rattle.oci_names.specs.Reference.{whole_text}
use Rattle.registry_calls.specs.declared.error_context.Called.TheVariants.{Pull}
use Rattle.cosign_rows.proofs.Exits.{in_words_said}
use Rattle.cosign_pull.proofs.pull.entry_of.Goals as goal

pub returns : goal.returns
returns g c = in_words_said Pull (whole_text c.args.source.now) c.entry_found-found.result _ c.with_error_context.result (rw c.in_ok-resolver.ensures at c.entry_found-found.ensures) c.with_error_context.ensures
