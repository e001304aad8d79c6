use Rattle.std.proofs.Common.{refl}
use Rattle.engine_terms.specs.Contexts.{within}
use Rattle.registry_cache.specs.Auths.{registry_auth}
use Rattle.registry_calls.specs.Direct.{reference_in}
use Rattle.cosign_layers.specs.Satisfying.{policy_context}
use Rattle.cosign_rows.specs.Verified.{is_unconstrained}
use Rattle.cosign_client.specs.State.{client_state, trusts}
use Rattle.sig_registry.specs.States.{state_of}
use Rattle.cosign_laws.proofs.Collected.{collected_is, collected_cause, collected_fault, collected_no_sink, collected_no_memory, collected_faults, collected_confined, collected_plain, collected_settled}
use Rattle.cosign_laws.proofs.Sound.{collected_answered}
use Rattle.cosign_client.proofs.KeptStates.{keeps_only}
use Rattle.cosign_client.proofs.PolicyFirst.{refused_before, empty_before, collected_empty}
use Rattle.cosign_client.proofs.client.Client.collect.Goals as goal

pub returns-in_err-auth-clause-run : goal.returns-in_err-auth-clause-run
returns-in_err-auth-clause-run g c = refused_before (is_unconstrained c.args.policy.now) _ c.in_err-auth.ensures.refused c.from_residual.ensures.1 (λ none. collected_empty (policy_context c.args.policy.now (λ b. (goal.VerificationConstraint-dyn g (b.vtable, b.value)).accepts b.value) (trusts (g.V.SignatureVerifier.valid c.args.verifier.now) (g.O.Offline.vouched c.args.judge.now) c.args.self.now)) (within (client_state c.args.self.now).settings c.args.moment) (reference_in c.args.image.now) (registry_auth c.args.auth.now) none)

pub returns-clause-run : goal.returns-clause-run
returns-clause-run g c = rw (c.reference.ensures.inner, c.in_ok-auth.ensures.auth) at ((c.collect.ensures.run (client_state c.args.self.now).settings).made refl).1

pub returns-clause-settings : goal.returns-clause-settings
returns-clause-settings g c = ((c.collect.ensures.run (client_state c.args.self.now).settings).made refl).0

pub returns-in_err-auth-clause-unconstrained : goal.returns-in_err-auth-clause-unconstrained
returns-in_err-auth-clause-unconstrained g c = λ none. (empty_before (is_unconstrained c.args.policy.now) _ c.in_err-auth.ensures.refused c.from_residual.ensures.1 none, refl)

pub returns-clause-unconstrained : goal.returns-clause-unconstrained
returns-clause-unconstrained g c = c.collect.ensures.unconstrained

pub returns-in_err-auth-clause-found : goal.returns-in_err-auth-clause-found
returns-in_err-auth-clause-found g c = collected_is (policy_context c.args.policy.now (λ b. (goal.VerificationConstraint-dyn g (b.vtable, b.value)).accepts b.value) (trusts (g.V.SignatureVerifier.valid c.args.verifier.now) (g.O.Offline.vouched c.args.judge.now) c.args.self.now)) (within (client_state c.args.self.now).settings c.args.moment) (reference_in c.args.image.now) (registry_auth c.args.auth.now) c.from_residual.result (returns-in_err-auth-clause-run g c)

pub returns-clause-found : goal.returns-clause-found
returns-clause-found g c = collected_is (policy_context c.args.policy.now (λ b. (goal.VerificationConstraint-dyn g (b.vtable, b.value)).accepts b.value) (trusts (g.V.SignatureVerifier.valid c.args.verifier.now) (g.O.Offline.vouched c.args.judge.now) c.args.self.now)) (within (client_state c.args.self.now).settings c.args.moment) (reference_in c.args.image.now) (registry_auth c.args.auth.now) c.collect.result (returns-clause-run g c)

pub returns-in_err-auth-clause-answered : goal.returns-in_err-auth-clause-answered
returns-in_err-auth-clause-answered g c = collected_answered (within (client_state c.args.self.now).settings c.args.moment) (policy_context c.args.policy.now (λ b. (goal.VerificationConstraint-dyn g (b.vtable, b.value)).accepts b.value) (trusts (g.V.SignatureVerifier.valid c.args.verifier.now) (g.O.Offline.vouched c.args.judge.now) c.args.self.now)) (reference_in c.args.image.now) (registry_auth c.args.auth.now) (client_state c.args.self.now).kept c.from_residual.result (returns-in_err-auth-clause-run g c)

pub returns-clause-answered : goal.returns-clause-answered
returns-clause-answered g c = collected_answered (within (client_state c.args.self.now).settings c.args.moment) (policy_context c.args.policy.now (λ b. (goal.VerificationConstraint-dyn g (b.vtable, b.value)).accepts b.value) (trusts (g.V.SignatureVerifier.valid c.args.verifier.now) (g.O.Offline.vouched c.args.judge.now) c.args.self.now)) (reference_in c.args.image.now) (registry_auth c.args.auth.now) (client_state c.args.self.now).kept c.collect.result (returns-clause-run g c)

pub returns-in_err-auth-clause-causes : goal.returns-in_err-auth-clause-causes
returns-in_err-auth-clause-causes g c = collected_cause (policy_context c.args.policy.now (λ b. (goal.VerificationConstraint-dyn g (b.vtable, b.value)).accepts b.value) (trusts (g.V.SignatureVerifier.valid c.args.verifier.now) (g.O.Offline.vouched c.args.judge.now) c.args.self.now)) (within (client_state c.args.self.now).settings c.args.moment) (reference_in c.args.image.now) (registry_auth c.args.auth.now) c.from_residual.result (returns-in_err-auth-clause-run g c)

pub returns-clause-causes : goal.returns-clause-causes
returns-clause-causes g c = collected_cause (policy_context c.args.policy.now (λ b. (goal.VerificationConstraint-dyn g (b.vtable, b.value)).accepts b.value) (trusts (g.V.SignatureVerifier.valid c.args.verifier.now) (g.O.Offline.vouched c.args.judge.now) c.args.self.now)) (within (client_state c.args.self.now).settings c.args.moment) (reference_in c.args.image.now) (registry_auth c.args.auth.now) c.collect.result (returns-clause-run g c)

pub returns-in_err-auth-clause-fault : goal.returns-in_err-auth-clause-fault
returns-in_err-auth-clause-fault g c = collected_fault (policy_context c.args.policy.now (λ b. (goal.VerificationConstraint-dyn g (b.vtable, b.value)).accepts b.value) (trusts (g.V.SignatureVerifier.valid c.args.verifier.now) (g.O.Offline.vouched c.args.judge.now) c.args.self.now)) (within (client_state c.args.self.now).settings c.args.moment) (reference_in c.args.image.now) (registry_auth c.args.auth.now) c.from_residual.result (returns-in_err-auth-clause-run g c)

pub returns-clause-fault : goal.returns-clause-fault
returns-clause-fault g c = collected_fault (policy_context c.args.policy.now (λ b. (goal.VerificationConstraint-dyn g (b.vtable, b.value)).accepts b.value) (trusts (g.V.SignatureVerifier.valid c.args.verifier.now) (g.O.Offline.vouched c.args.judge.now) c.args.self.now)) (within (client_state c.args.self.now).settings c.args.moment) (reference_in c.args.image.now) (registry_auth c.args.auth.now) c.collect.result (returns-clause-run g c)

pub returns-in_err-auth-clause-no_sink_fault : goal.returns-in_err-auth-clause-no_sink_fault
returns-in_err-auth-clause-no_sink_fault g c = collected_no_sink (policy_context c.args.policy.now (λ b. (goal.VerificationConstraint-dyn g (b.vtable, b.value)).accepts b.value) (trusts (g.V.SignatureVerifier.valid c.args.verifier.now) (g.O.Offline.vouched c.args.judge.now) c.args.self.now)) (within (client_state c.args.self.now).settings c.args.moment) (reference_in c.args.image.now) (registry_auth c.args.auth.now) c.from_residual.result (returns-in_err-auth-clause-run g c)

pub returns-clause-no_sink_fault : goal.returns-clause-no_sink_fault
returns-clause-no_sink_fault g c = collected_no_sink (policy_context c.args.policy.now (λ b. (goal.VerificationConstraint-dyn g (b.vtable, b.value)).accepts b.value) (trusts (g.V.SignatureVerifier.valid c.args.verifier.now) (g.O.Offline.vouched c.args.judge.now) c.args.self.now)) (within (client_state c.args.self.now).settings c.args.moment) (reference_in c.args.image.now) (registry_auth c.args.auth.now) c.collect.result (returns-clause-run g c)

pub returns-in_err-auth-clause-no_memory : goal.returns-in_err-auth-clause-no_memory
returns-in_err-auth-clause-no_memory g c = collected_no_memory (policy_context c.args.policy.now (λ b. (goal.VerificationConstraint-dyn g (b.vtable, b.value)).accepts b.value) (trusts (g.V.SignatureVerifier.valid c.args.verifier.now) (g.O.Offline.vouched c.args.judge.now) c.args.self.now)) (within (client_state c.args.self.now).settings c.args.moment) (reference_in c.args.image.now) (registry_auth c.args.auth.now) c.from_residual.result (returns-in_err-auth-clause-run g c)

pub returns-clause-no_memory : goal.returns-clause-no_memory
returns-clause-no_memory g c = collected_no_memory (policy_context c.args.policy.now (λ b. (goal.VerificationConstraint-dyn g (b.vtable, b.value)).accepts b.value) (trusts (g.V.SignatureVerifier.valid c.args.verifier.now) (g.O.Offline.vouched c.args.judge.now) c.args.self.now)) (within (client_state c.args.self.now).settings c.args.moment) (reference_in c.args.image.now) (registry_auth c.args.auth.now) c.collect.result (returns-clause-run g c)

pub returns-in_err-auth-clause-faults : goal.returns-in_err-auth-clause-faults
returns-in_err-auth-clause-faults g c = collected_faults (policy_context c.args.policy.now (λ b. (goal.VerificationConstraint-dyn g (b.vtable, b.value)).accepts b.value) (trusts (g.V.SignatureVerifier.valid c.args.verifier.now) (g.O.Offline.vouched c.args.judge.now) c.args.self.now)) (within (client_state c.args.self.now).settings c.args.moment) (reference_in c.args.image.now) (registry_auth c.args.auth.now) c.from_residual.result (returns-in_err-auth-clause-run g c)

pub returns-clause-faults : goal.returns-clause-faults
returns-clause-faults g c = collected_faults (policy_context c.args.policy.now (λ b. (goal.VerificationConstraint-dyn g (b.vtable, b.value)).accepts b.value) (trusts (g.V.SignatureVerifier.valid c.args.verifier.now) (g.O.Offline.vouched c.args.judge.now) c.args.self.now)) (within (client_state c.args.self.now).settings c.args.moment) (reference_in c.args.image.now) (registry_auth c.args.auth.now) c.collect.result (returns-clause-run g c)

pub returns-in_err-auth-clause-confined : goal.returns-in_err-auth-clause-confined
returns-in_err-auth-clause-confined g c = collected_confined (policy_context c.args.policy.now (λ b. (goal.VerificationConstraint-dyn g (b.vtable, b.value)).accepts b.value) (trusts (g.V.SignatureVerifier.valid c.args.verifier.now) (g.O.Offline.vouched c.args.judge.now) c.args.self.now)) (within (client_state c.args.self.now).settings c.args.moment) (reference_in c.args.image.now) (registry_auth c.args.auth.now) c.from_residual.result c.args.image.now.direct (returns-in_err-auth-clause-run g c)

pub returns-clause-confined : goal.returns-clause-confined
returns-clause-confined g c = collected_confined (policy_context c.args.policy.now (λ b. (goal.VerificationConstraint-dyn g (b.vtable, b.value)).accepts b.value) (trusts (g.V.SignatureVerifier.valid c.args.verifier.now) (g.O.Offline.vouched c.args.judge.now) c.args.self.now)) (within (client_state c.args.self.now).settings c.args.moment) (reference_in c.args.image.now) (registry_auth c.args.auth.now) c.collect.result c.args.image.now.direct (returns-clause-run g c)

pub returns-in_err-auth-clause-settled : goal.returns-in_err-auth-clause-settled
returns-in_err-auth-clause-settled g c = λ shelf from settled other at_one also. collected_settled (policy_context c.args.policy.now (λ b. (goal.VerificationConstraint-dyn g (b.vtable, b.value)).accepts b.value) (trusts (g.V.SignatureVerifier.valid c.args.verifier.now) (g.O.Offline.vouched c.args.judge.now) c.args.self.now)) (client_state c.args.self.now).settings (reference_in c.args.image.now) other (registry_auth c.args.auth.now) shelf at_one c.args.moment c.from_residual.result from settled also (returns-in_err-auth-clause-run g c)

pub returns-clause-settled : goal.returns-clause-settled
returns-clause-settled g c = λ shelf from settled other at_one also. collected_settled (policy_context c.args.policy.now (λ b. (goal.VerificationConstraint-dyn g (b.vtable, b.value)).accepts b.value) (trusts (g.V.SignatureVerifier.valid c.args.verifier.now) (g.O.Offline.vouched c.args.judge.now) c.args.self.now)) (client_state c.args.self.now).settings (reference_in c.args.image.now) other (registry_auth c.args.auth.now) shelf at_one c.args.moment c.collect.result from settled also (returns-clause-run g c)

pub returns-in_err-auth-clause-keeps : goal.returns-in_err-auth-clause-keeps
returns-in_err-auth-clause-keeps g c = keeps_only (client_state c.args.self.now) (client_state c.args.self.now) c.args.moment (reference_in c.args.image.now) (registry_auth c.args.auth.now) (returns-in_err-auth-clause-confined g c) (collected_plain (policy_context c.args.policy.now (λ b. (goal.VerificationConstraint-dyn g (b.vtable, b.value)).accepts b.value) (trusts (g.V.SignatureVerifier.valid c.args.verifier.now) (g.O.Offline.vouched c.args.judge.now) c.args.self.now)) (within (client_state c.args.self.now).settings c.args.moment) (reference_in c.args.image.now) (registry_auth c.args.auth.now) c.from_residual.result (returns-in_err-auth-clause-run g c))

pub returns-clause-keeps : goal.returns-clause-keeps
returns-clause-keeps g c = keeps_only (client_state c.args.self.now) (state_of c.collect.new.client) c.args.moment (reference_in c.args.image.now) (registry_auth c.args.auth.now) (returns-clause-confined g c) (collected_plain (policy_context c.args.policy.now (λ b. (goal.VerificationConstraint-dyn g (b.vtable, b.value)).accepts b.value) (trusts (g.V.SignatureVerifier.valid c.args.verifier.now) (g.O.Offline.vouched c.args.judge.now) c.args.self.now)) (within (client_state c.args.self.now).settings c.args.moment) (reference_in c.args.image.now) (registry_auth c.args.auth.now) c.collect.result (returns-clause-run g c))
