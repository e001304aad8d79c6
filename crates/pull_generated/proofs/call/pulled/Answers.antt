use Rattle.std.proofs.Common.{◌∙◌}
use Rattle.registry_calls.specs.Direct.{reference_in}
use Rattle.cosign_client.specs.State.{client_state}
use Rattle.pull_generated.proofs.Calls.{wanting, wanting_gives, ran, gives_image}
use Rattle.pull_generated.proofs.call.pulled.Goals as goal

pub returns-in_err-terms-clause-run : goal.returns-in_err-terms-clause-run
returns-in_err-terms-clause-run g c = wanting c.args.layers _ c.from_residual.ensures.1

pub returns-in_err-terms-clause-completes : goal.returns-in_err-terms-clause-completes
returns-in_err-terms-clause-completes g c = λ count two from. wanting_gives _ c.from_residual.ensures.1

pub returns-in_err-client-clause-run : goal.returns-in_err-client-clause-run
returns-in_err-client-clause-run g c = wanting c.args.layers _ c.from_residual-in_err-client.ensures.1

pub returns-in_err-client-clause-completes : goal.returns-in_err-client-clause-completes
returns-in_err-client-clause-completes g c = λ count two from. wanting_gives _ c.from_residual-in_err-client.ensures.1

pub returns-clause-run : goal.returns-clause-run
returns-clause-run g c =
    ran _ c.args.layers c.in_ok-terms.terms.policy c.in_ok-terms.terms.verifier c.in_ok-client.client.rekor_pub_keys (client_state c.in_ok-client.client) (reference_in c.in_ok-terms.terms.image) c.as_slice.result.now
    c.in_ok-terms.ensures.keys c.in_ok-terms.ensures.constraints c.in_ok-terms.ensures.verifier c.in_ok-client.ensures.log_keys c.in_ok-client.ensures.state c.in_ok-terms.ensures.image (c.as_slice.ensures ∙ c.in_ok-terms.ensures.accepted) c.verified_pull.ensures.run

pub returns-clause-completes : goal.returns-clause-completes
returns-clause-completes g c =
    gives_image _ c.args.layers c.in_ok-terms.terms.policy c.in_ok-terms.terms.verifier c.in_ok-client.client.rekor_pub_keys (client_state c.in_ok-client.client) (reference_in c.in_ok-terms.terms.image) c.as_slice.result.now
    c.in_ok-terms.ensures.keys c.in_ok-terms.ensures.constraints c.in_ok-terms.ensures.verifier c.in_ok-client.ensures.log_keys c.in_ok-client.ensures.state c.in_ok-terms.ensures.image (c.as_slice.ensures ∙ c.in_ok-terms.ensures.accepted) _ c.verified_pull.ensures.completes
