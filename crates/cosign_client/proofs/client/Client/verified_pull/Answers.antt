use Rattle.std.proofs.Common.{refl}
use Rattle.engine_terms.specs.Contexts.{within}
use Rattle.registry_cache.specs.Auths.{registry_auth}
use Rattle.registry_calls.specs.Direct.{reference_in}
use Rattle.cosign_layers.specs.Satisfying.{PolicyContext, policy_context}
use Rattle.cosign_client.specs.State.{client_state, trusts}
use Rattle.sig_registry.specs.States.{state_of}
use Rattle.cosign_laws.proofs.Causes.{pull_cause}
use Rattle.cosign_laws.proofs.Chains.{chain_of, links_of, backed_of}
use Rattle.cosign_laws.proofs.Confinement.{pull_confined}
use Rattle.cosign_laws.proofs.DigestStep.{unread_refused, pull_decided}
use Rattle.cosign_laws.proofs.Faults.{pull_no_memory, pull_faults}
use Rattle.cosign_laws.proofs.PlainClients.{pull_plain}
use Rattle.cosign_laws.proofs.Refusals.{pull_fault, pull_no_sink}
use Rattle.cosign_laws.proofs.ShelfPulls.{completed_wide, settled_after, valid_wide}
use Rattle.cosign_client.proofs.KeptStates.{keeps_only}
use Rattle.cosign_client.proofs.client.Client.verified_pull.Goals as goal

pub returns-clause-run : goal.returns-clause-run
returns-clause-run g c = rw c.reference.ensures.inner at ((c.pull_verified.ensures.run (client_state c.args.self.now).settings).made refl).1

pub returns-clause-settings : goal.returns-clause-settings
returns-clause-settings g c = ((c.pull_verified.ensures.run (client_state c.args.self.now).settings).made refl).0

pub returns-clause-unconstrained : goal.returns-clause-unconstrained
returns-clause-unconstrained g c = c.pull_verified.ensures.unconstrained

pub returns-clause-unread : goal.returns-clause-unread
returns-clause-unread g c = λ some unread. (unread_refused (policy_context c.args.policy.now (λ b. (goal.VerificationConstraint-dyn g (b.vtable, b.value)).accepts b.value) (trusts (g.V.SignatureVerifier.valid c.args.verifier.now) (g.O.Offline.vouched c.args.judge.now) c.args.self.now)) (within (client_state c.args.self.now).settings c.args.moment) (reference_in c.args.image.now) (registry_auth c.args.auth.now) c.args.accepted_media_types.now some unread (returns-clause-run g c), (rw c.reference.ensures.inner at c.pull_verified.ensures.unread) unread)

pub returns-clause-digest : goal.returns-clause-digest
returns-clause-digest g c = λ some reads. pull_decided (policy_context c.args.policy.now (λ b. (goal.VerificationConstraint-dyn g (b.vtable, b.value)).accepts b.value) (trusts (g.V.SignatureVerifier.valid c.args.verifier.now) (g.O.Offline.vouched c.args.judge.now) c.args.self.now)) (within (client_state c.args.self.now).settings c.args.moment) (reference_in c.args.image.now) (registry_auth c.args.auth.now) c.args.accepted_media_types.now c.pull_verified.result some reads (returns-clause-run g c)

pub returns-clause-chain : goal.returns-clause-chain
returns-clause-chain g c = chain_of _ _ _ _ (registry_auth c.args.auth.now) _ c.pull_verified.result (returns-clause-run g c)

pub returns-clause-causes : goal.returns-clause-causes
returns-clause-causes g c = pull_cause _ _ _ (registry_auth c.args.auth.now) c.args.accepted_media_types.now c.pull_verified.result (returns-clause-run g c)

pub returns-clause-backed : goal.returns-clause-backed
returns-clause-backed g c = backed_of _ _ (policy_context c.args.policy.now (λ b. (goal.VerificationConstraint-dyn g (b.vtable, b.value)).accepts b.value) (trusts (g.V.SignatureVerifier.valid c.args.verifier.now) (g.O.Offline.vouched c.args.judge.now) c.args.self.now)) _ (registry_auth c.args.auth.now) c.args.accepted_media_types.now c.pull_verified.result (returns-clause-run g c)

pub returns-clause-links : goal.returns-clause-links
returns-clause-links g c = links_of _ _ (policy_context c.args.policy.now (λ b. (goal.VerificationConstraint-dyn g (b.vtable, b.value)).accepts b.value) (trusts (g.V.SignatureVerifier.valid c.args.verifier.now) (g.O.Offline.vouched c.args.judge.now) c.args.self.now)) _ (registry_auth c.args.auth.now) c.args.accepted_media_types.now c.pull_verified.result (returns-clause-run g c)

pub returns-clause-no_memory : goal.returns-clause-no_memory
returns-clause-no_memory g c = pull_no_memory (policy_context c.args.policy.now (λ b. (goal.VerificationConstraint-dyn g (b.vtable, b.value)).accepts b.value) (trusts (g.V.SignatureVerifier.valid c.args.verifier.now) (g.O.Offline.vouched c.args.judge.now) c.args.self.now)) _ _ (registry_auth c.args.auth.now) c.args.accepted_media_types.now c.pull_verified.result (returns-clause-run g c)

pub returns-clause-faults : goal.returns-clause-faults
returns-clause-faults g c = pull_faults (policy_context c.args.policy.now (λ b. (goal.VerificationConstraint-dyn g (b.vtable, b.value)).accepts b.value) (trusts (g.V.SignatureVerifier.valid c.args.verifier.now) (g.O.Offline.vouched c.args.judge.now) c.args.self.now)) _ _ (registry_auth c.args.auth.now) c.args.accepted_media_types.now c.pull_verified.result (returns-clause-run g c)

pub returns-clause-fault : goal.returns-clause-fault
returns-clause-fault g c = pull_fault (policy_context c.args.policy.now (λ b. (goal.VerificationConstraint-dyn g (b.vtable, b.value)).accepts b.value) (trusts (g.V.SignatureVerifier.valid c.args.verifier.now) (g.O.Offline.vouched c.args.judge.now) c.args.self.now)) _ _ (registry_auth c.args.auth.now) c.args.accepted_media_types.now c.pull_verified.result (returns-clause-run g c)

pub returns-clause-no_sink_fault : goal.returns-clause-no_sink_fault
returns-clause-no_sink_fault g c = pull_no_sink (policy_context c.args.policy.now (λ b. (goal.VerificationConstraint-dyn g (b.vtable, b.value)).accepts b.value) (trusts (g.V.SignatureVerifier.valid c.args.verifier.now) (g.O.Offline.vouched c.args.judge.now) c.args.self.now)) _ _ (registry_auth c.args.auth.now) c.args.accepted_media_types.now c.pull_verified.result (returns-clause-run g c)

pub returns-clause-completes_wide : goal.returns-clause-completes_wide
returns-clause-completes_wide g c = λ shelf from settled wide. completed_wide (policy_context c.args.policy.now (λ b. (goal.VerificationConstraint-dyn g (b.vtable, b.value)).accepts b.value) (trusts (g.V.SignatureVerifier.valid c.args.verifier.now) (g.O.Offline.vouched c.args.judge.now) c.args.self.now)) (client_state c.args.self.now).settings (reference_in c.args.image.now) (registry_auth c.args.auth.now) c.args.accepted_media_types.now shelf wide.has c.args.moment wide.signed c.pull_verified.result from settled (returns-clause-run g c)

pub returns-clause-completes : goal.returns-clause-completes
returns-clause-completes g c = λ shelf from settled valid. returns-clause-completes_wide g c shelf from settled (valid_wide (policy_context c.args.policy.now (λ b. (goal.VerificationConstraint-dyn g (b.vtable, b.value)).accepts b.value) (trusts (g.V.SignatureVerifier.valid c.args.verifier.now) (g.O.Offline.vouched c.args.judge.now) c.args.self.now)) (client_state c.args.self.now).settings (reference_in c.args.image.now) (registry_auth c.args.auth.now) c.args.accepted_media_types.now shelf valid)

pub returns-clause-settled : goal.returns-clause-settled
returns-clause-settled g c = λ shelf from settled other at_one also. settled_after (policy_context c.args.policy.now (λ b. (goal.VerificationConstraint-dyn g (b.vtable, b.value)).accepts b.value) (trusts (g.V.SignatureVerifier.valid c.args.verifier.now) (g.O.Offline.vouched c.args.judge.now) c.args.self.now)) (client_state c.args.self.now).settings (reference_in c.args.image.now) other (registry_auth c.args.auth.now) c.args.accepted_media_types.now shelf at_one c.args.moment c.pull_verified.result from settled also (returns-clause-run g c)

pub returns-clause-confined : goal.returns-clause-confined
returns-clause-confined g c = pull_confined (policy_context c.args.policy.now (λ b. (goal.VerificationConstraint-dyn g (b.vtable, b.value)).accepts b.value) (trusts (g.V.SignatureVerifier.valid c.args.verifier.now) (g.O.Offline.vouched c.args.judge.now) c.args.self.now)) (within (client_state c.args.self.now).settings c.args.moment) (reference_in c.args.image.now) (registry_auth c.args.auth.now) c.args.accepted_media_types.now c.pull_verified.result c.args.image.now.direct (returns-clause-run g c)

pub returns-clause-keeps : goal.returns-clause-keeps
returns-clause-keeps g c = keeps_only (client_state c.args.self.now) (state_of c.pull_verified.new.client) c.args.moment (reference_in c.args.image.now) (registry_auth c.args.auth.now) (returns-clause-confined g c) (pull_plain (policy_context c.args.policy.now (λ b. (goal.VerificationConstraint-dyn g (b.vtable, b.value)).accepts b.value) (trusts (g.V.SignatureVerifier.valid c.args.verifier.now) (g.O.Offline.vouched c.args.judge.now) c.args.self.now)) (within (client_state c.args.self.now).settings c.args.moment) (reference_in c.args.image.now) (registry_auth c.args.auth.now) c.args.accepted_media_types.now c.pull_verified.result (returns-clause-run g c))
