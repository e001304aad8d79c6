use Rattle.std.proofs.Common.{refl}
use Rattle.engine_terms.specs.Contexts.{within}
use Rattle.registry_cache.specs.Auths.{registry_auth}
use Rattle.registry_calls.specs.Direct.{reference_in}
use Rattle.cosign_layers.specs.Satisfying.{policy_context}
use Rattle.cosign_rows.specs.Verified.{is_unconstrained}
use Rattle.cosign_client.specs.State.{client_state, trusts}
use Rattle.sig_registry.specs.States.{state_of}
use Rattle.cosign_laws.proofs.ShelfPulls.{valid_wide}
use Rattle.cosign_laws.proofs.Begins.{documents_unread, documents_decided}
use Rattle.cosign_laws.proofs.DocumentCauses.{documents_cause}
use Rattle.cosign_laws.proofs.Pulls.{documents_fault, documents_no_sink, documents_no_memory, documents_faults, documents_confined, documents_plain, documents_completed, documents_settled}
use Rattle.cosign_laws.proofs.Same.{same_as_pull}
use Rattle.cosign_laws.proofs.Sound.{documents_hold, documents_backed}
use Rattle.cosign_client.proofs.KeptStates.{keeps_only}
use Rattle.cosign_client.proofs.PolicyFirst.{refused_before, empty_before, documents_empty}
use Rattle.cosign_client.proofs.client.Client.verified_documents.Goals as goal

pub returns-in_err-auth-clause-run : goal.returns-in_err-auth-clause-run
returns-in_err-auth-clause-run g c = refused_before (is_unconstrained c.args.policy.now) _ c.in_err-auth.ensures.refused c.from_residual.ensures.1 (λ none. documents_empty (policy_context c.args.policy.now (λ b. (goal.VerificationConstraint-dyn g (b.vtable, b.value)).accepts b.value) (trusts (g.V.SignatureVerifier.valid c.args.verifier.now) (g.O.Offline.vouched c.args.judge.now) c.args.self.now)) (within (client_state c.args.self.now).settings c.args.moment) (reference_in c.args.image.now) (registry_auth c.args.auth.now) none)

pub returns-clause-run : goal.returns-clause-run
returns-clause-run g c = rw (c.reference.ensures.inner, c.in_ok-auth.ensures.auth) at ((c.verified_documents.ensures.run (client_state c.args.self.now).settings).made refl).1

pub returns-clause-settings : goal.returns-clause-settings
returns-clause-settings g c = ((c.verified_documents.ensures.run (client_state c.args.self.now).settings).made refl).0

pub returns-in_err-auth-clause-unconstrained : goal.returns-in_err-auth-clause-unconstrained
returns-in_err-auth-clause-unconstrained g c = λ none. (empty_before (is_unconstrained c.args.policy.now) _ c.in_err-auth.ensures.refused c.from_residual.ensures.1 none, refl)

pub returns-clause-unconstrained : goal.returns-clause-unconstrained
returns-clause-unconstrained g c = c.verified_documents.ensures.unconstrained

pub returns-in_err-auth-clause-unread : goal.returns-in_err-auth-clause-unread
returns-in_err-auth-clause-unread g c = λ some unread. (documents_unread (policy_context c.args.policy.now (λ b. (goal.VerificationConstraint-dyn g (b.vtable, b.value)).accepts b.value) (trusts (g.V.SignatureVerifier.valid c.args.verifier.now) (g.O.Offline.vouched c.args.judge.now) c.args.self.now)) (within (client_state c.args.self.now).settings c.args.moment) (reference_in c.args.image.now) (registry_auth c.args.auth.now) c.from_residual.result some unread (returns-in_err-auth-clause-run g c), refl)

pub returns-clause-unread : goal.returns-clause-unread
returns-clause-unread g c = λ some unread. (documents_unread (policy_context c.args.policy.now (λ b. (goal.VerificationConstraint-dyn g (b.vtable, b.value)).accepts b.value) (trusts (g.V.SignatureVerifier.valid c.args.verifier.now) (g.O.Offline.vouched c.args.judge.now) c.args.self.now)) (within (client_state c.args.self.now).settings c.args.moment) (reference_in c.args.image.now) (registry_auth c.args.auth.now) c.verified_documents.result some unread (returns-clause-run g c), ((rw c.reference.ensures.inner at c.verified_documents.ensures.unread) unread).1)

pub returns-in_err-auth-clause-digest : goal.returns-in_err-auth-clause-digest
returns-in_err-auth-clause-digest g c = λ some back. documents_decided (policy_context c.args.policy.now (λ b. (goal.VerificationConstraint-dyn g (b.vtable, b.value)).accepts b.value) (trusts (g.V.SignatureVerifier.valid c.args.verifier.now) (g.O.Offline.vouched c.args.judge.now) c.args.self.now)) (within (client_state c.args.self.now).settings c.args.moment) (reference_in c.args.image.now) (registry_auth c.args.auth.now) c.from_residual.result some back (returns-in_err-auth-clause-run g c)

pub returns-clause-digest : goal.returns-clause-digest
returns-clause-digest g c = λ some back. documents_decided (policy_context c.args.policy.now (λ b. (goal.VerificationConstraint-dyn g (b.vtable, b.value)).accepts b.value) (trusts (g.V.SignatureVerifier.valid c.args.verifier.now) (g.O.Offline.vouched c.args.judge.now) c.args.self.now)) (within (client_state c.args.self.now).settings c.args.moment) (reference_in c.args.image.now) (registry_auth c.args.auth.now) c.verified_documents.result some back (returns-clause-run g c)

pub returns-in_err-auth-clause-documents : goal.returns-in_err-auth-clause-documents
returns-in_err-auth-clause-documents g c = documents_hold (within (client_state c.args.self.now).settings c.args.moment) (policy_context c.args.policy.now (λ b. (goal.VerificationConstraint-dyn g (b.vtable, b.value)).accepts b.value) (trusts (g.V.SignatureVerifier.valid c.args.verifier.now) (g.O.Offline.vouched c.args.judge.now) c.args.self.now)) (reference_in c.args.image.now) (registry_auth c.args.auth.now) (client_state c.args.self.now).kept c.from_residual.result (returns-in_err-auth-clause-run g c)

pub returns-clause-documents : goal.returns-clause-documents
returns-clause-documents g c = documents_hold (within (client_state c.args.self.now).settings c.args.moment) (policy_context c.args.policy.now (λ b. (goal.VerificationConstraint-dyn g (b.vtable, b.value)).accepts b.value) (trusts (g.V.SignatureVerifier.valid c.args.verifier.now) (g.O.Offline.vouched c.args.judge.now) c.args.self.now)) (reference_in c.args.image.now) (registry_auth c.args.auth.now) (client_state c.args.self.now).kept c.verified_documents.result (returns-clause-run g c)

pub returns-in_err-auth-clause-causes : goal.returns-in_err-auth-clause-causes
returns-in_err-auth-clause-causes g c = documents_cause (policy_context c.args.policy.now (λ b. (goal.VerificationConstraint-dyn g (b.vtable, b.value)).accepts b.value) (trusts (g.V.SignatureVerifier.valid c.args.verifier.now) (g.O.Offline.vouched c.args.judge.now) c.args.self.now)) (within (client_state c.args.self.now).settings c.args.moment) (reference_in c.args.image.now) (registry_auth c.args.auth.now) c.from_residual.result (returns-in_err-auth-clause-run g c)

pub returns-clause-causes : goal.returns-clause-causes
returns-clause-causes g c = documents_cause (policy_context c.args.policy.now (λ b. (goal.VerificationConstraint-dyn g (b.vtable, b.value)).accepts b.value) (trusts (g.V.SignatureVerifier.valid c.args.verifier.now) (g.O.Offline.vouched c.args.judge.now) c.args.self.now)) (within (client_state c.args.self.now).settings c.args.moment) (reference_in c.args.image.now) (registry_auth c.args.auth.now) c.verified_documents.result (returns-clause-run g c)

pub returns-in_err-auth-clause-backed : goal.returns-in_err-auth-clause-backed
returns-in_err-auth-clause-backed g c = documents_backed (within (client_state c.args.self.now).settings c.args.moment) (policy_context c.args.policy.now (λ b. (goal.VerificationConstraint-dyn g (b.vtable, b.value)).accepts b.value) (trusts (g.V.SignatureVerifier.valid c.args.verifier.now) (g.O.Offline.vouched c.args.judge.now) c.args.self.now)) (reference_in c.args.image.now) (registry_auth c.args.auth.now) (client_state c.args.self.now).kept c.from_residual.result (returns-in_err-auth-clause-run g c)

pub returns-clause-backed : goal.returns-clause-backed
returns-clause-backed g c = documents_backed (within (client_state c.args.self.now).settings c.args.moment) (policy_context c.args.policy.now (λ b. (goal.VerificationConstraint-dyn g (b.vtable, b.value)).accepts b.value) (trusts (g.V.SignatureVerifier.valid c.args.verifier.now) (g.O.Offline.vouched c.args.judge.now) c.args.self.now)) (reference_in c.args.image.now) (registry_auth c.args.auth.now) (client_state c.args.self.now).kept c.verified_documents.result (returns-clause-run g c)

pub returns-in_err-auth-clause-fault : goal.returns-in_err-auth-clause-fault
returns-in_err-auth-clause-fault g c = documents_fault (policy_context c.args.policy.now (λ b. (goal.VerificationConstraint-dyn g (b.vtable, b.value)).accepts b.value) (trusts (g.V.SignatureVerifier.valid c.args.verifier.now) (g.O.Offline.vouched c.args.judge.now) c.args.self.now)) (within (client_state c.args.self.now).settings c.args.moment) (reference_in c.args.image.now) (registry_auth c.args.auth.now) c.from_residual.result (returns-in_err-auth-clause-run g c)

pub returns-clause-fault : goal.returns-clause-fault
returns-clause-fault g c = documents_fault (policy_context c.args.policy.now (λ b. (goal.VerificationConstraint-dyn g (b.vtable, b.value)).accepts b.value) (trusts (g.V.SignatureVerifier.valid c.args.verifier.now) (g.O.Offline.vouched c.args.judge.now) c.args.self.now)) (within (client_state c.args.self.now).settings c.args.moment) (reference_in c.args.image.now) (registry_auth c.args.auth.now) c.verified_documents.result (returns-clause-run g c)

pub returns-in_err-auth-clause-no_sink_fault : goal.returns-in_err-auth-clause-no_sink_fault
returns-in_err-auth-clause-no_sink_fault g c = documents_no_sink (policy_context c.args.policy.now (λ b. (goal.VerificationConstraint-dyn g (b.vtable, b.value)).accepts b.value) (trusts (g.V.SignatureVerifier.valid c.args.verifier.now) (g.O.Offline.vouched c.args.judge.now) c.args.self.now)) (within (client_state c.args.self.now).settings c.args.moment) (reference_in c.args.image.now) (registry_auth c.args.auth.now) c.from_residual.result (returns-in_err-auth-clause-run g c)

pub returns-clause-no_sink_fault : goal.returns-clause-no_sink_fault
returns-clause-no_sink_fault g c = documents_no_sink (policy_context c.args.policy.now (λ b. (goal.VerificationConstraint-dyn g (b.vtable, b.value)).accepts b.value) (trusts (g.V.SignatureVerifier.valid c.args.verifier.now) (g.O.Offline.vouched c.args.judge.now) c.args.self.now)) (within (client_state c.args.self.now).settings c.args.moment) (reference_in c.args.image.now) (registry_auth c.args.auth.now) c.verified_documents.result (returns-clause-run g c)

pub returns-in_err-auth-clause-no_memory : goal.returns-in_err-auth-clause-no_memory
returns-in_err-auth-clause-no_memory g c = documents_no_memory (policy_context c.args.policy.now (λ b. (goal.VerificationConstraint-dyn g (b.vtable, b.value)).accepts b.value) (trusts (g.V.SignatureVerifier.valid c.args.verifier.now) (g.O.Offline.vouched c.args.judge.now) c.args.self.now)) (within (client_state c.args.self.now).settings c.args.moment) (reference_in c.args.image.now) (registry_auth c.args.auth.now) c.from_residual.result (returns-in_err-auth-clause-run g c)

pub returns-clause-no_memory : goal.returns-clause-no_memory
returns-clause-no_memory g c = documents_no_memory (policy_context c.args.policy.now (λ b. (goal.VerificationConstraint-dyn g (b.vtable, b.value)).accepts b.value) (trusts (g.V.SignatureVerifier.valid c.args.verifier.now) (g.O.Offline.vouched c.args.judge.now) c.args.self.now)) (within (client_state c.args.self.now).settings c.args.moment) (reference_in c.args.image.now) (registry_auth c.args.auth.now) c.verified_documents.result (returns-clause-run g c)

pub returns-in_err-auth-clause-faults : goal.returns-in_err-auth-clause-faults
returns-in_err-auth-clause-faults g c = documents_faults (policy_context c.args.policy.now (λ b. (goal.VerificationConstraint-dyn g (b.vtable, b.value)).accepts b.value) (trusts (g.V.SignatureVerifier.valid c.args.verifier.now) (g.O.Offline.vouched c.args.judge.now) c.args.self.now)) (within (client_state c.args.self.now).settings c.args.moment) (reference_in c.args.image.now) (registry_auth c.args.auth.now) c.from_residual.result (returns-in_err-auth-clause-run g c)

pub returns-clause-faults : goal.returns-clause-faults
returns-clause-faults g c = documents_faults (policy_context c.args.policy.now (λ b. (goal.VerificationConstraint-dyn g (b.vtable, b.value)).accepts b.value) (trusts (g.V.SignatureVerifier.valid c.args.verifier.now) (g.O.Offline.vouched c.args.judge.now) c.args.self.now)) (within (client_state c.args.self.now).settings c.args.moment) (reference_in c.args.image.now) (registry_auth c.args.auth.now) c.verified_documents.result (returns-clause-run g c)

pub returns-in_err-auth-clause-confined : goal.returns-in_err-auth-clause-confined
returns-in_err-auth-clause-confined g c = documents_confined (policy_context c.args.policy.now (λ b. (goal.VerificationConstraint-dyn g (b.vtable, b.value)).accepts b.value) (trusts (g.V.SignatureVerifier.valid c.args.verifier.now) (g.O.Offline.vouched c.args.judge.now) c.args.self.now)) (within (client_state c.args.self.now).settings c.args.moment) (reference_in c.args.image.now) (registry_auth c.args.auth.now) c.from_residual.result c.args.image.now.direct (returns-in_err-auth-clause-run g c)

pub returns-clause-confined : goal.returns-clause-confined
returns-clause-confined g c = documents_confined (policy_context c.args.policy.now (λ b. (goal.VerificationConstraint-dyn g (b.vtable, b.value)).accepts b.value) (trusts (g.V.SignatureVerifier.valid c.args.verifier.now) (g.O.Offline.vouched c.args.judge.now) c.args.self.now)) (within (client_state c.args.self.now).settings c.args.moment) (reference_in c.args.image.now) (registry_auth c.args.auth.now) c.verified_documents.result c.args.image.now.direct (returns-clause-run g c)

pub returns-in_err-auth-clause-completes_wide : goal.returns-in_err-auth-clause-completes_wide
returns-in_err-auth-clause-completes_wide g c = λ accepted shelf from settled wide. documents_completed (policy_context c.args.policy.now (λ b. (goal.VerificationConstraint-dyn g (b.vtable, b.value)).accepts b.value) (trusts (g.V.SignatureVerifier.valid c.args.verifier.now) (g.O.Offline.vouched c.args.judge.now) c.args.self.now)) (client_state c.args.self.now).settings (reference_in c.args.image.now) (registry_auth c.args.auth.now) accepted shelf c.args.moment wide c.from_residual.result from settled (returns-in_err-auth-clause-run g c)

pub returns-clause-completes_wide : goal.returns-clause-completes_wide
returns-clause-completes_wide g c = λ accepted shelf from settled wide. documents_completed (policy_context c.args.policy.now (λ b. (goal.VerificationConstraint-dyn g (b.vtable, b.value)).accepts b.value) (trusts (g.V.SignatureVerifier.valid c.args.verifier.now) (g.O.Offline.vouched c.args.judge.now) c.args.self.now)) (client_state c.args.self.now).settings (reference_in c.args.image.now) (registry_auth c.args.auth.now) accepted shelf c.args.moment wide c.verified_documents.result from settled (returns-clause-run g c)

pub returns-in_err-auth-clause-completes : goal.returns-in_err-auth-clause-completes
returns-in_err-auth-clause-completes g c = λ accepted shelf from settled valid. returns-in_err-auth-clause-completes_wide g c accepted shelf from settled (valid_wide (policy_context c.args.policy.now (λ b. (goal.VerificationConstraint-dyn g (b.vtable, b.value)).accepts b.value) (trusts (g.V.SignatureVerifier.valid c.args.verifier.now) (g.O.Offline.vouched c.args.judge.now) c.args.self.now)) (client_state c.args.self.now).settings (reference_in c.args.image.now) (registry_auth c.args.auth.now) accepted shelf valid)

pub returns-clause-completes : goal.returns-clause-completes
returns-clause-completes g c = λ accepted shelf from settled valid. returns-clause-completes_wide g c accepted shelf from settled (valid_wide (policy_context c.args.policy.now (λ b. (goal.VerificationConstraint-dyn g (b.vtable, b.value)).accepts b.value) (trusts (g.V.SignatureVerifier.valid c.args.verifier.now) (g.O.Offline.vouched c.args.judge.now) c.args.self.now)) (client_state c.args.self.now).settings (reference_in c.args.image.now) (registry_auth c.args.auth.now) accepted shelf valid)

pub returns-in_err-auth-clause-settled : goal.returns-in_err-auth-clause-settled
returns-in_err-auth-clause-settled g c = λ shelf from settled other at_one also. documents_settled (policy_context c.args.policy.now (λ b. (goal.VerificationConstraint-dyn g (b.vtable, b.value)).accepts b.value) (trusts (g.V.SignatureVerifier.valid c.args.verifier.now) (g.O.Offline.vouched c.args.judge.now) c.args.self.now)) (client_state c.args.self.now).settings (reference_in c.args.image.now) other (registry_auth c.args.auth.now) shelf at_one c.args.moment c.from_residual.result from settled also (returns-in_err-auth-clause-run g c)

pub returns-clause-settled : goal.returns-clause-settled
returns-clause-settled g c = λ shelf from settled other at_one also. documents_settled (policy_context c.args.policy.now (λ b. (goal.VerificationConstraint-dyn g (b.vtable, b.value)).accepts b.value) (trusts (g.V.SignatureVerifier.valid c.args.verifier.now) (g.O.Offline.vouched c.args.judge.now) c.args.self.now)) (client_state c.args.self.now).settings (reference_in c.args.image.now) other (registry_auth c.args.auth.now) shelf at_one c.args.moment c.verified_documents.result from settled also (returns-clause-run g c)

pub returns-in_err-auth-clause-keeps : goal.returns-in_err-auth-clause-keeps
returns-in_err-auth-clause-keeps g c = keeps_only (client_state c.args.self.now) (client_state c.args.self.now) c.args.moment (reference_in c.args.image.now) (registry_auth c.args.auth.now) (returns-in_err-auth-clause-confined g c) (documents_plain (policy_context c.args.policy.now (λ b. (goal.VerificationConstraint-dyn g (b.vtable, b.value)).accepts b.value) (trusts (g.V.SignatureVerifier.valid c.args.verifier.now) (g.O.Offline.vouched c.args.judge.now) c.args.self.now)) (within (client_state c.args.self.now).settings c.args.moment) (reference_in c.args.image.now) (registry_auth c.args.auth.now) c.from_residual.result (returns-in_err-auth-clause-run g c))

pub returns-clause-keeps : goal.returns-clause-keeps
returns-clause-keeps g c = keeps_only (client_state c.args.self.now) (state_of c.verified_documents.new.client) c.args.moment (reference_in c.args.image.now) (registry_auth c.args.auth.now) (returns-clause-confined g c) (documents_plain (policy_context c.args.policy.now (λ b. (goal.VerificationConstraint-dyn g (b.vtable, b.value)).accepts b.value) (trusts (g.V.SignatureVerifier.valid c.args.verifier.now) (g.O.Offline.vouched c.args.judge.now) c.args.self.now)) (within (client_state c.args.self.now).settings c.args.moment) (reference_in c.args.image.now) (registry_auth c.args.auth.now) c.verified_documents.result (returns-clause-run g c))

pub returns-in_err-auth-clause-same : goal.returns-in_err-auth-clause-same
returns-in_err-auth-clause-same g c = same_as_pull (policy_context c.args.policy.now (λ b. (goal.VerificationConstraint-dyn g (b.vtable, b.value)).accepts b.value) (trusts (g.V.SignatureVerifier.valid c.args.verifier.now) (g.O.Offline.vouched c.args.judge.now) c.args.self.now)) (within (client_state c.args.self.now).settings c.args.moment) (reference_in c.args.image.now) (registry_auth c.args.auth.now) c.from_residual.result (returns-in_err-auth-clause-run g c)

pub returns-clause-same : goal.returns-clause-same
returns-clause-same g c = same_as_pull (policy_context c.args.policy.now (λ b. (goal.VerificationConstraint-dyn g (b.vtable, b.value)).accepts b.value) (trusts (g.V.SignatureVerifier.valid c.args.verifier.now) (g.O.Offline.vouched c.args.judge.now) c.args.self.now)) (within (client_state c.args.self.now).settings c.args.moment) (reference_in c.args.image.now) (registry_auth c.args.auth.now) c.verified_documents.result (returns-clause-run g c)
