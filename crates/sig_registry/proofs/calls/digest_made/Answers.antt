use Rattle.oci_engine.specs.Refusals.{DigestRefused}
use Rattle.engine_rows.specs.Pulls.{fetch_manifest_digest}
use Rattle.engine_terms.specs.Contexts.{within}
use Rattle.registry_calls.specs.Calls.{digest_made}
use Rattle.registry_calls.specs.declared.error_context.Called.TheVariants.{FetchManifest}
use Rattle.sig_registry.proofs.InWords.{made, worded_fault, worded_no_sink}
use Rattle.sig_registry.proofs.calls.digest_made.Goals as goal

pub returns : goal.returns
unfolding digest_made
returns g c = record {
  run = λ s. made FetchManifest c.args.image.now (λ t. fetch_manifest_digest (within t c.args.moment) c.args.image.now c.args.auth.now) s c.fetch_manifest_digest-outcome.ensures.settings c.fetch_manifest_digest-outcome.ensures.run c.with_error_context.ensures;
  fault = worded_fault FetchManifest _ _ _ _ c.fetch_manifest_digest-outcome.ensures.fault c.with_error_context.ensures;
  no_sink_fault = worded_no_sink FetchManifest _ (DigestRefused c.args.client.now c.args.moment c.args.image.now c.args.auth.now) _ _ _ _ (λ d n h. h.holds) c.fetch_manifest_digest-outcome.ensures.causes c.with_error_context.ensures;
  confined = c.fetch_manifest_digest-outcome.ensures.confined;
}
