use Rattle.oci_engine.specs.Refusals.{ManifestRefused}
use Rattle.engine_rows.specs.Pulls.{pull_manifest}
use Rattle.engine_terms.specs.Contexts.{within}
use Rattle.registry_calls.specs.Calls.{manifest_made}
use Rattle.registry_calls.specs.declared.error_context.Called.TheVariants.{PullManifest}
use Rattle.sig_registry.proofs.InWords.{made, worded_fault, worded_no_sink}
use Rattle.sig_registry.proofs.calls.manifest_made.Goals as goal

pub returns : goal.returns
unfolding manifest_made
returns g c = record {
  run = λ s. made PullManifest c.args.image.now (λ t. pull_manifest (within t c.args.moment) c.args.image.now c.args.auth.now) s c.pull_manifest-outcome.ensures.settings c.pull_manifest-outcome.ensures.run c.with_error_context.ensures;
  fault = worded_fault PullManifest _ _ _ _ c.pull_manifest-outcome.ensures.fault c.with_error_context.ensures;
  no_sink_fault = worded_no_sink PullManifest _ (ManifestRefused c.args.client.now c.args.moment c.args.image.now c.args.auth.now) _ _ _ _ (λ d n h. h.holds) c.pull_manifest-outcome.ensures.causes c.with_error_context.ensures;
  confined = c.pull_manifest-outcome.ensures.confined;
}
