use Rattle.std.proofs.Common.{refl}
use Rattle.engine_terms.specs.Contexts.{within}
use Rattle.registry_cache.specs.Auths.{registry_auth}
use Rattle.registry_calls.specs.Direct.{reference_in}
use Rattle.cosign_layers.specs.Satisfying.{policy_context}
use Rattle.cosign_rows.specs.Verified.{is_unconstrained}
use Rattle.cosign_client.specs.State.{client_state, trusts}
use Rattle.sig_registry.specs.States.{state_of}
use Rattle.cosign_laws.proofs.Decided.{decided_hold, decided_over, decided_cause, decided_confined}
use Rattle.cosign_laws.proofs.DecidedFaults.{decided_fault, decided_no_sink}
use Rattle.cosign_laws.proofs.DecidedKeeps.{decided_plain}
use Rattle.cosign_client.proofs.KeptStates.{keeps_only}
use Rattle.cosign_client.proofs.PolicyFirst.{refused_before, empty_before, decided_empty}
use Rattle.cosign_client.proofs.client.Client.decide.Goals as goal

pub returns-in_err-auth-clause-run : goal.returns-in_err-auth-clause-run
returns-in_err-auth-clause-run g c = refused_before (is_unconstrained c.args.policy.now) _ c.in_err-auth.ensures.refused c.from_residual.ensures.1 (λ none. decided_empty (policy_context c.args.policy.now (λ b. (goal.VerificationConstraint-dyn g (b.vtable, b.value)).accepts b.value) (trusts (g.V.SignatureVerifier.valid c.args.verifier.now) (g.O.Offline.vouched c.args.judge.now) c.args.self.now)) (within (client_state c.args.self.now).settings c.args.moment) (reference_in c.args.image.now) (registry_auth c.args.auth.now) c.args.found none)

pub returns-clause-run : goal.returns-clause-run
returns-clause-run g c = rw (c.reference.ensures.inner, c.in_ok-auth.ensures.auth) at ((c.decide.ensures.run (client_state c.args.self.now).settings).made refl).1

pub returns-clause-settings : goal.returns-clause-settings
returns-clause-settings g c = ((c.decide.ensures.run (client_state c.args.self.now).settings).made refl).0

pub returns-in_err-auth-clause-unconstrained : goal.returns-in_err-auth-clause-unconstrained
returns-in_err-auth-clause-unconstrained g c = λ none. (empty_before (is_unconstrained c.args.policy.now) _ c.in_err-auth.ensures.refused c.from_residual.ensures.1 none, refl)

pub returns-clause-unconstrained : goal.returns-clause-unconstrained
returns-clause-unconstrained g c = c.decide.ensures.unconstrained

pub returns-in_err-auth-clause-documents : goal.returns-in_err-auth-clause-documents
returns-in_err-auth-clause-documents g c = decided_hold (policy_context c.args.policy.now (λ b. (goal.VerificationConstraint-dyn g (b.vtable, b.value)).accepts b.value) (trusts (g.V.SignatureVerifier.valid c.args.verifier.now) (g.O.Offline.vouched c.args.judge.now) c.args.self.now)) (within (client_state c.args.self.now).settings c.args.moment) (reference_in c.args.image.now) (registry_auth c.args.auth.now) c.args.found c.from_residual.result (returns-in_err-auth-clause-run g c)

pub returns-clause-documents : goal.returns-clause-documents
returns-clause-documents g c = decided_hold (policy_context c.args.policy.now (λ b. (goal.VerificationConstraint-dyn g (b.vtable, b.value)).accepts b.value) (trusts (g.V.SignatureVerifier.valid c.args.verifier.now) (g.O.Offline.vouched c.args.judge.now) c.args.self.now)) (within (client_state c.args.self.now).settings c.args.moment) (reference_in c.args.image.now) (registry_auth c.args.auth.now) c.args.found c.decide.result (returns-clause-run g c)

pub returns-in_err-auth-clause-backed : goal.returns-in_err-auth-clause-backed
returns-in_err-auth-clause-backed g c = decided_over (policy_context c.args.policy.now (λ b. (goal.VerificationConstraint-dyn g (b.vtable, b.value)).accepts b.value) (trusts (g.V.SignatureVerifier.valid c.args.verifier.now) (g.O.Offline.vouched c.args.judge.now) c.args.self.now)) (within (client_state c.args.self.now).settings c.args.moment) (reference_in c.args.image.now) (registry_auth c.args.auth.now) c.args.found c.from_residual.result (returns-in_err-auth-clause-run g c)

pub returns-clause-backed : goal.returns-clause-backed
returns-clause-backed g c = decided_over (policy_context c.args.policy.now (λ b. (goal.VerificationConstraint-dyn g (b.vtable, b.value)).accepts b.value) (trusts (g.V.SignatureVerifier.valid c.args.verifier.now) (g.O.Offline.vouched c.args.judge.now) c.args.self.now)) (within (client_state c.args.self.now).settings c.args.moment) (reference_in c.args.image.now) (registry_auth c.args.auth.now) c.args.found c.decide.result (returns-clause-run g c)

pub returns-in_err-auth-clause-causes : goal.returns-in_err-auth-clause-causes
returns-in_err-auth-clause-causes g c = decided_cause (policy_context c.args.policy.now (λ b. (goal.VerificationConstraint-dyn g (b.vtable, b.value)).accepts b.value) (trusts (g.V.SignatureVerifier.valid c.args.verifier.now) (g.O.Offline.vouched c.args.judge.now) c.args.self.now)) (within (client_state c.args.self.now).settings c.args.moment) (reference_in c.args.image.now) (registry_auth c.args.auth.now) c.args.found c.from_residual.result (returns-in_err-auth-clause-run g c)

pub returns-clause-causes : goal.returns-clause-causes
returns-clause-causes g c = decided_cause (policy_context c.args.policy.now (λ b. (goal.VerificationConstraint-dyn g (b.vtable, b.value)).accepts b.value) (trusts (g.V.SignatureVerifier.valid c.args.verifier.now) (g.O.Offline.vouched c.args.judge.now) c.args.self.now)) (within (client_state c.args.self.now).settings c.args.moment) (reference_in c.args.image.now) (registry_auth c.args.auth.now) c.args.found c.decide.result (returns-clause-run g c)

pub returns-in_err-auth-clause-fault : goal.returns-in_err-auth-clause-fault
returns-in_err-auth-clause-fault g c = decided_fault (policy_context c.args.policy.now (λ b. (goal.VerificationConstraint-dyn g (b.vtable, b.value)).accepts b.value) (trusts (g.V.SignatureVerifier.valid c.args.verifier.now) (g.O.Offline.vouched c.args.judge.now) c.args.self.now)) (within (client_state c.args.self.now).settings c.args.moment) (reference_in c.args.image.now) (registry_auth c.args.auth.now) c.args.found c.from_residual.result (returns-in_err-auth-clause-run g c)

pub returns-clause-fault : goal.returns-clause-fault
returns-clause-fault g c = decided_fault (policy_context c.args.policy.now (λ b. (goal.VerificationConstraint-dyn g (b.vtable, b.value)).accepts b.value) (trusts (g.V.SignatureVerifier.valid c.args.verifier.now) (g.O.Offline.vouched c.args.judge.now) c.args.self.now)) (within (client_state c.args.self.now).settings c.args.moment) (reference_in c.args.image.now) (registry_auth c.args.auth.now) c.args.found c.decide.result (returns-clause-run g c)

pub returns-in_err-auth-clause-no_sink_fault : goal.returns-in_err-auth-clause-no_sink_fault
returns-in_err-auth-clause-no_sink_fault g c = decided_no_sink (policy_context c.args.policy.now (λ b. (goal.VerificationConstraint-dyn g (b.vtable, b.value)).accepts b.value) (trusts (g.V.SignatureVerifier.valid c.args.verifier.now) (g.O.Offline.vouched c.args.judge.now) c.args.self.now)) (within (client_state c.args.self.now).settings c.args.moment) (reference_in c.args.image.now) (registry_auth c.args.auth.now) c.args.found c.from_residual.result (returns-in_err-auth-clause-run g c)

pub returns-clause-no_sink_fault : goal.returns-clause-no_sink_fault
returns-clause-no_sink_fault g c = decided_no_sink (policy_context c.args.policy.now (λ b. (goal.VerificationConstraint-dyn g (b.vtable, b.value)).accepts b.value) (trusts (g.V.SignatureVerifier.valid c.args.verifier.now) (g.O.Offline.vouched c.args.judge.now) c.args.self.now)) (within (client_state c.args.self.now).settings c.args.moment) (reference_in c.args.image.now) (registry_auth c.args.auth.now) c.args.found c.decide.result (returns-clause-run g c)

pub returns-in_err-auth-clause-confined : goal.returns-in_err-auth-clause-confined
returns-in_err-auth-clause-confined g c = decided_confined (policy_context c.args.policy.now (λ b. (goal.VerificationConstraint-dyn g (b.vtable, b.value)).accepts b.value) (trusts (g.V.SignatureVerifier.valid c.args.verifier.now) (g.O.Offline.vouched c.args.judge.now) c.args.self.now)) (within (client_state c.args.self.now).settings c.args.moment) (reference_in c.args.image.now) (registry_auth c.args.auth.now) c.args.found c.from_residual.result c.args.image.now.direct (returns-in_err-auth-clause-run g c)

pub returns-clause-confined : goal.returns-clause-confined
returns-clause-confined g c = decided_confined (policy_context c.args.policy.now (λ b. (goal.VerificationConstraint-dyn g (b.vtable, b.value)).accepts b.value) (trusts (g.V.SignatureVerifier.valid c.args.verifier.now) (g.O.Offline.vouched c.args.judge.now) c.args.self.now)) (within (client_state c.args.self.now).settings c.args.moment) (reference_in c.args.image.now) (registry_auth c.args.auth.now) c.args.found c.decide.result c.args.image.now.direct (returns-clause-run g c)

pub returns-in_err-auth-clause-keeps : goal.returns-in_err-auth-clause-keeps
returns-in_err-auth-clause-keeps g c = keeps_only (client_state c.args.self.now) (client_state c.args.self.now) c.args.moment (reference_in c.args.image.now) (registry_auth c.args.auth.now) (returns-in_err-auth-clause-confined g c) (decided_plain (policy_context c.args.policy.now (λ b. (goal.VerificationConstraint-dyn g (b.vtable, b.value)).accepts b.value) (trusts (g.V.SignatureVerifier.valid c.args.verifier.now) (g.O.Offline.vouched c.args.judge.now) c.args.self.now)) (within (client_state c.args.self.now).settings c.args.moment) (reference_in c.args.image.now) (registry_auth c.args.auth.now) c.args.found c.from_residual.result (returns-in_err-auth-clause-run g c))

pub returns-clause-keeps : goal.returns-clause-keeps
returns-clause-keeps g c = keeps_only (client_state c.args.self.now) (state_of c.decide.new.client) c.args.moment (reference_in c.args.image.now) (registry_auth c.args.auth.now) (returns-clause-confined g c) (decided_plain (policy_context c.args.policy.now (λ b. (goal.VerificationConstraint-dyn g (b.vtable, b.value)).accepts b.value) (trusts (g.V.SignatureVerifier.valid c.args.verifier.now) (g.O.Offline.vouched c.args.judge.now) c.args.self.now)) (within (client_state c.args.self.now).settings c.args.moment) (reference_in c.args.image.now) (registry_auth c.args.auth.now) c.args.found c.decide.result (returns-clause-run g c))
