use Rattle.std.specs.Prelude.{option_copied}
use Rattle.oci_auth.specs.declared.token_type.RegistryOperation.TheVariants as operation
use Rattle.oci_names.specs.Reference.{whole_text}
use Rattle.oci_engine.specs.Refusals.{ReferrersRefused}
use Rattle.engine_rows.specs.TokenCauses.{TokenCause}
use Rattle.engine_laws.proofs.ReferrersCauses.{referrers_no_sink}
use Rattle.engine_rows.specs.Held.{pulling}
use Rattle.engine_rows.specs.Rows.{token_given}
use Rattle.engine_rows.specs.Referrers.{pull_referrers}
use Rattle.engine_terms.specs.Contexts.{within}
use Rattle.registry_calls.specs.Calls.{referrers_made}
use Rattle.registry_calls.specs.declared.error_context.Called.TheVariants.{FetchManifest, PullManifest}
use Rattle.sig_registry.proofs.InWords.{made, worded_fault, worded_no_sink}
use Rattle.sig_registry.proofs.InTurn.{made_refused, made_next, refused_fault, refused_no_sink, worded_ok, rose_in_second, first_confined, both_confined}
use Rattle.sig_registry.proofs.calls.referrers_made.Goals as goal

pub returns-in_err-_token : goal.returns-in_err-_token
unfolding referrers_made
returns-in_err-_token g c = record {
  run = λ s. made_refused s _ c.in_err-_token.field-0.0 _ (made FetchManifest c.args.image.now (λ t. token_given (within t c.args.moment) c.args.image.now c.args.auth.now operation.Pull) s c.auth-given.ensures.settings c.auth-given.ensures.run c.in_err-_token.ensures) c.from_residual.ensures.1;
  fault = refused_fault FetchManifest (whole_text c.args.image.now) c.auth-given.result c.in_err-_token.field-0.0 c.from_residual.result _ c.auth-given.ensures.fault c.in_err-_token.ensures c.from_residual.ensures.1;
  no_sink_fault = refused_no_sink FetchManifest (whole_text c.args.image.now) (TokenCause c.args.client.now.settings c.args.image.now c.args.auth.now) _ _ c.auth-given.result c.in_err-_token.field-0.0 c.from_residual.result (λ d n h. h) c.auth-given.ensures.causes c.in_err-_token.ensures c.from_residual.ensures.1;
  confined = first_confined _ _ _ c.auth-given.ensures.confined;
}

pub returns : goal.returns
unfolding referrers_made
returns g c = let ok = worded_ok FetchManifest (whole_text c.args.image.now) c.auth-given.result c.in_ok-_token._token c.in_ok-_token.ensures in record {
  run = λ s. made_next s _ c.in_ok-_token._token _ (made FetchManifest c.args.image.now (λ t. token_given (within t c.args.moment) c.args.image.now c.args.auth.now operation.Pull) s c.auth-given.ensures.settings c.auth-given.ensures.run c.in_ok-_token.ensures)
      (made PullManifest c.args.image.now (λ t. pull_referrers (within t c.args.moment) c.args.image.now (option_copied c.args.artifact_type)) s c.pull_referrers-outcome.ensures.settings c.pull_referrers-outcome.ensures.run c.with_error_context-2.ensures);
  fault = λ held. rose_in_second c.auth-given.ensures.run ok (worded_fault PullManifest _ _ _ _ c.pull_referrers-outcome.ensures.fault c.with_error_context-2.ensures held);
  no_sink_fault = worded_no_sink PullManifest _ (ReferrersRefused _ c.args.moment c.args.image.now) _ _ _ _ (λ d n h. referrers_no_sink _ _ d n h) c.pull_referrers-outcome.ensures.causes c.with_error_context-2.ensures;
  confined = both_confined _ _ c.args.moment c.args.image.now c.args.auth.now (option_copied c.args.artifact_type) c.auth-given.ensures.settings ok c.auth-given.ensures.run c.pull_referrers-outcome.ensures.run;
}
