use Rattle.engine_rows.specs.Blobs.{IntoMemory}
use Rattle.oci_engine.specs.Refusals.{BlobRefused}
use Rattle.engine_rows.specs.Pulls.{held_blob}
use Rattle.engine_terms.specs.Contexts.{within}
use Rattle.engine_requests.specs.Sources.{described}
use Rattle.registry_calls.specs.Calls.{blob_made}
use Rattle.registry_calls.specs.declared.error_context.Called.TheVariants.{Pull}
use Rattle.sig_registry.proofs.InWords.{made, worded_fault, worded_no_sink}
use Rattle.sig_registry.proofs.calls.blob_made.Goals as goal

pub returns : goal.returns
unfolding blob_made
returns g c = record {
  run = λ s. made Pull c.args.image.now (λ t. held_blob (within t c.args.moment) c.args.image.now (described c.args.layer.now)) s c.pulled_blob-outcome.ensures.settings c.pulled_blob-outcome.ensures.run c.with_error_context.ensures;
  fault = worded_fault Pull _ _ _ _ c.pulled_blob-outcome.ensures.fault c.with_error_context.ensures;
  no_sink_fault = worded_no_sink Pull _ (BlobRefused IntoMemory c.args.client.now c.args.moment c.args.image.now (described c.args.layer.now)) _ _ _ _ (λ d n h. h) c.pulled_blob-outcome.ensures.causes c.with_error_context.ensures;
  confined = c.pulled_blob-outcome.ensures.confined;
}
