use Rattle.oci_engine.specs.Refusals.{PullRefused}
use Rattle.engine_rows.specs.Image.{pull}
use Rattle.engine_terms.specs.Contexts.{within}
use Rattle.registry_calls.specs.Calls.{image_made}
use Rattle.registry_calls.specs.declared.error_context.Called.TheVariants.{Pull}
use Rattle.sig_registry.proofs.InWords.{made, worded_fault, worded_no_sink}
use Rattle.sig_registry.proofs.NamedImages.{pulled_named}
use Rattle.sig_registry.proofs.calls.image_made.Goals as goal

pub returns : goal.returns
unfolding image_made
returns g c = record {
  run = λ s. made Pull c.args.image.now (λ t. pull (within t c.args.moment) c.args.image.now c.args.auth.now c.args.accepted_media_types.now) s c.pull-outcome.ensures.settings c.pull-outcome.ensures.run c.with_error_context.ensures;
  fault = worded_fault Pull _ _ _ _ c.pull-outcome.ensures.fault c.with_error_context.ensures;
  no_sink_fault = worded_no_sink Pull _ (PullRefused c.args.client.now c.args.moment c.args.image.now c.args.auth.now c.args.accepted_media_types.now) _ _ _ _ (λ d n h. h) c.pull-outcome.ensures.causes c.with_error_context.ensures;
  confined = c.pull-outcome.ensures.confined;
  named = pulled_named Pull _ (within c.args.client.now.settings c.args.moment) c.args.image.now c.args.auth.now c.args.accepted_media_types.now _ c.pull-outcome.ensures.run c.with_error_context.ensures;
}
