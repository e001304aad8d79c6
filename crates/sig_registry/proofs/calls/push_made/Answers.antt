use Rattle.std.proofs.Common.{◌⊎◌, inl, inr, ℕ, List}
use Rattle.oci_engine.specs.Refusals.{ImagePushRefused}
use Rattle.oci_transport.specs.declared.message.Exchange.{Exchange}
use Rattle.push_rows.specs.Images.{push}
use Rattle.engine_terms.specs.Contexts.{within}
use Rattle.engine_terms.specs.declared.error.OciDistributionError.TheVariants as engine_refusal
use Rattle.registry_calls.specs.Calls.{push_made}
use Rattle.registry_calls.specs.declared.error_context.Called.TheVariants.{Push}
use Rattle.sig_registry.proofs.InWords.{made, worded_fault, worded_no_sink}
use Rattle.sig_registry.proofs.calls.push_made.Goals as goal

pub returns : goal.returns
unfolding push_made
returns g c = record {
  run = λ s. made Push c.args.image.now (λ t. push (within t c.args.moment) c.args.image.now c.args.layers.now c.args.config c.args.auth.now c.args.manifest) s c.push-outcome.ensures.settings c.push-outcome.ensures.run c.with_error_context.ensures;
  fault = worded_fault Push _ _ _ _ c.push-outcome.ensures.fault c.with_error_context.ensures;
  no_sink_fault = worded_no_sink Push _ (ImagePushRefused c.args.layers.now c.args.config c.args.client.now c.args.moment c.args.image.now c.args.auth.now c.args.manifest) _ _ _ _ never c.push-outcome.ensures.causes c.with_error_context.ensures;
  confined = c.push-outcome.ensures.confined;
}
  where
    never : (d : List Exchange) (n : ℕ) → ImagePushRefused c.args.layers.now c.args.config c.args.client.now c.args.moment c.args.image.now c.args.auth.now c.args.manifest d n engine_refusal.SinkFault → ⊥
    never d n (inl none) = none
    never d n (inr shown) = shown.holds.4
