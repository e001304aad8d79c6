use Rattle.oci_engine.specs.Refusals.{DocumentRefused}
use Rattle.engine_rows.specs.Pulls.{pull_manifest_raw}
use Rattle.engine_requests.specs.Requests.{listed}
use Rattle.engine_terms.specs.Contexts.{within}
use Rattle.registry_calls.specs.Calls.{document_made}
use Rattle.registry_calls.specs.declared.error_context.Called.TheVariants.{Pull}
use Rattle.sig_registry.proofs.InWords.{made, worded_fault, worded_no_sink}
use Rattle.sig_registry.proofs.calls.document_made.Goals as goal

pub returns : goal.returns
unfolding document_made
returns g c = record {
  run = λ s. made Pull c.args.image.now (λ t. pull_manifest_raw (within t c.args.moment) c.args.image.now c.args.auth.now (listed c.args.accepted_media_types.now)) s c.pull_manifest_raw-outcome.ensures.settings c.pull_manifest_raw-outcome.ensures.run c.with_error_context.ensures;
  fault = worded_fault Pull _ _ _ _ c.pull_manifest_raw-outcome.ensures.fault c.with_error_context.ensures;
  no_sink_fault = worded_no_sink Pull _ (DocumentRefused c.args.client.now c.args.moment c.args.image.now c.args.auth.now (listed c.args.accepted_media_types.now)) _ _ _ _ (λ d n h. h.holds) c.pull_manifest_raw-outcome.ensures.causes c.with_error_context.ensures;
  confined = c.pull_manifest_raw-outcome.ensures.confined;
}
