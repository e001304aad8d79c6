use Rattle.std.proofs.Common.{refl}
use Rattle.engine_terms.specs.Contexts.{within}
use Rattle.oci_engine.specs.Refusals.{at_moment}
use Rattle.registry_cache.specs.Auths.{registry_auth}
use Rattle.registry_calls.specs.Direct.{reference_in}
use Rattle.cosign_client.specs.State.{client_state, trusts}
use Rattle.cosign_layers.specs.Satisfying.{policy_context}
use Rattle.pull_mirror.specs.Targets.{is_target}
use Rattle.pull_mirror.proofs.Confining.{nothing_asked, nothing_sent}
use Rattle.pull_mirror.proofs.Mirroring.{pulled_as, plain_pull, refused_pull, targeted, named_if, typed_if, nothing_pulled, nothing_stopped, target_is, target_cause, no_refusal}
use Rattle.pull_mirror.proofs.copies.mirror.Goals as goal

-- ---- the target is refused

pub returns-in-Some-clause-target : goal.returns-in-Some-clause-target
returns-in-Some-clause-target g c = λ other. (target_is (reference_in c.args.target.now) c.in-Some.error (rw (c.reference.ensures.inner, c.in-Some.is) at c.target_error.ensures), refl, refl, refl, refl, refl)

pub returns-in-Some-clause-target_cause : goal.returns-in-Some-clause-target_cause
returns-in-Some-clause-target_cause g c = target_cause (reference_in c.args.target.now) c.in-Some.error (rw (c.reference.ensures.inner, c.in-Some.is) at c.target_error.ensures)

pub returns-in-Some-clause-run : goal.returns-in-Some-clause-run
returns-in-Some-clause-run g c = nothing_pulled (reference_in c.args.target.now) _ c.in-Some.error (rw (c.reference.ensures.inner, c.in-Some.is) at c.target_error.ensures)

pub returns-in-Some-clause-chain : goal.returns-in-Some-clause-chain
returns-in-Some-clause-chain g c = nothing_pulled (reference_in c.args.target.now) _ c.in-Some.error (rw (c.reference.ensures.inner, c.in-Some.is) at c.target_error.ensures)

pub returns-in-Some-clause-backed : goal.returns-in-Some-clause-backed
returns-in-Some-clause-backed g c = nothing_pulled (reference_in c.args.target.now) _ c.in-Some.error (rw (c.reference.ensures.inner, c.in-Some.is) at c.target_error.ensures)

pub returns-in-Some-clause-links : goal.returns-in-Some-clause-links
returns-in-Some-clause-links g c = nothing_pulled (reference_in c.args.target.now) _ c.in-Some.error (rw (c.reference.ensures.inner, c.in-Some.is) at c.target_error.ensures)

pub returns-in-Some-clause-causes : goal.returns-in-Some-clause-causes
returns-in-Some-clause-causes g c = nothing_pulled (reference_in c.args.target.now) _ c.in-Some.error (rw (c.reference.ensures.inner, c.in-Some.is) at c.target_error.ensures)

pub returns-in-Some-clause-fault : goal.returns-in-Some-clause-fault
returns-in-Some-clause-fault g c = nothing_pulled (reference_in c.args.target.now) _ c.in-Some.error (rw (c.reference.ensures.inner, c.in-Some.is) at c.target_error.ensures)

pub returns-in-Some-clause-no_sink_fault : goal.returns-in-Some-clause-no_sink_fault
returns-in-Some-clause-no_sink_fault g c = nothing_pulled (reference_in c.args.target.now) _ c.in-Some.error (rw (c.reference.ensures.inner, c.in-Some.is) at c.target_error.ensures)

pub returns-in-Some-clause-no_memory : goal.returns-in-Some-clause-no_memory
returns-in-Some-clause-no_memory g c = nothing_pulled (reference_in c.args.target.now) _ c.in-Some.error (rw (c.reference.ensures.inner, c.in-Some.is) at c.target_error.ensures)

pub returns-in-Some-clause-faults : goal.returns-in-Some-clause-faults
returns-in-Some-clause-faults g c = nothing_pulled (reference_in c.args.target.now) _ c.in-Some.error (rw (c.reference.ensures.inner, c.in-Some.is) at c.target_error.ensures)

pub returns-in-Some-clause-unsent : goal.returns-in-Some-clause-unsent
returns-in-Some-clause-unsent g c = nothing_pulled (reference_in c.args.target.now) _ c.in-Some.error (rw (c.reference.ensures.inner, c.in-Some.is) at c.target_error.ensures)

pub returns-in-Some-clause-named : goal.returns-in-Some-clause-named
returns-in-Some-clause-named g c = nothing_pulled (reference_in c.args.target.now) _ c.in-Some.error (rw (c.reference.ensures.inner, c.in-Some.is) at c.target_error.ensures)

pub returns-in-Some-clause-typed : goal.returns-in-Some-clause-typed
returns-in-Some-clause-typed g c = nothing_pulled (reference_in c.args.target.now) _ c.in-Some.error (rw (c.reference.ensures.inner, c.in-Some.is) at c.target_error.ensures)

pub returns-in-Some-clause-mirrored : goal.returns-in-Some-clause-mirrored
returns-in-Some-clause-mirrored g c = tt

pub returns-in-Some-clause-pushed : goal.returns-in-Some-clause-pushed
returns-in-Some-clause-pushed g c = tt

pub returns-in-Some-clause-stopped : goal.returns-in-Some-clause-stopped
returns-in-Some-clause-stopped g c = nothing_stopped (reference_in c.args.target.now) _ c.in-Some.error (rw (c.reference.ensures.inner, c.in-Some.is) at c.target_error.ensures)

pub returns-in-Some-clause-no_target_memory : goal.returns-in-Some-clause-no_target_memory
returns-in-Some-clause-no_target_memory g c = nothing_stopped (reference_in c.args.target.now) _ c.in-Some.error (rw (c.reference.ensures.inner, c.in-Some.is) at c.target_error.ensures)

pub returns-in-Some-clause-target_fault : goal.returns-in-Some-clause-target_fault
returns-in-Some-clause-target_fault g c = nothing_stopped (reference_in c.args.target.now) _ c.in-Some.error (rw (c.reference.ensures.inner, c.in-Some.is) at c.target_error.ensures)

pub returns-in-Some-clause-confined : goal.returns-in-Some-clause-confined
returns-in-Some-clause-confined g c = nothing_asked (within (client_state c.args.client.now).settings c.args.moment) _ _ _ _

pub returns-in-Some-clause-confined_target : goal.returns-in-Some-clause-confined_target
returns-in-Some-clause-confined_target g c = nothing_sent (at_moment c.args.target_client.now c.args.moment) _ _ _ _

pub returns-in-Some-clause-settings : goal.returns-in-Some-clause-settings
returns-in-Some-clause-settings g c = refl

pub returns-in-Some-clause-keys : goal.returns-in-Some-clause-keys
returns-in-Some-clause-keys g c = refl

pub returns-in-Some-clause-target_settings : goal.returns-in-Some-clause-target_settings
returns-in-Some-clause-target_settings g c = refl

-- ---- the image is pulled

pub returns-clause-target : goal.returns-clause-target
returns-clause-target g c = λ other. no_refusal (is_target (reference_in c.args.target.now)) (rw (c.reference.ensures.inner, c.in_default.is) at c.target_error.ensures) other

pub returns-clause-target_cause : goal.returns-clause-target_cause
returns-clause-target_cause g c = targeted _ c.verified_pull-pulled.result c.push_pulled.result c.push_pulled.ensures.follows

pub returns-clause-run : goal.returns-clause-run
returns-clause-run g c = pulled_as _ c.verified_pull-pulled.result c.push_pulled.result c.push_pulled.ensures.follows c.verified_pull-pulled.ensures.run

pub returns-clause-chain : goal.returns-clause-chain
returns-clause-chain g c = pulled_as _ c.verified_pull-pulled.result c.push_pulled.result c.push_pulled.ensures.follows c.verified_pull-pulled.ensures.chain

pub returns-clause-backed : goal.returns-clause-backed
returns-clause-backed g c = pulled_as _ c.verified_pull-pulled.result c.push_pulled.result c.push_pulled.ensures.follows c.verified_pull-pulled.ensures.backed

pub returns-clause-links : goal.returns-clause-links
returns-clause-links g c = pulled_as _ c.verified_pull-pulled.result c.push_pulled.result c.push_pulled.ensures.follows c.verified_pull-pulled.ensures.links

pub returns-clause-causes : goal.returns-clause-causes
returns-clause-causes g c = pulled_as _ c.verified_pull-pulled.result c.push_pulled.result c.push_pulled.ensures.follows c.verified_pull-pulled.ensures.causes

pub returns-clause-fault : goal.returns-clause-fault
returns-clause-fault g c = pulled_as _ c.verified_pull-pulled.result c.push_pulled.result c.push_pulled.ensures.follows c.verified_pull-pulled.ensures.fault

pub returns-clause-no_sink_fault : goal.returns-clause-no_sink_fault
returns-clause-no_sink_fault g c = pulled_as _ c.verified_pull-pulled.result c.push_pulled.result c.push_pulled.ensures.follows c.verified_pull-pulled.ensures.no_sink_fault

pub returns-clause-no_memory : goal.returns-clause-no_memory
returns-clause-no_memory g c = plain_pull _ c.verified_pull-pulled.result c.push_pulled.result c.push_pulled.ensures.follows c.verified_pull-pulled.ensures.no_memory

pub returns-clause-faults : goal.returns-clause-faults
returns-clause-faults g c = pulled_as _ c.verified_pull-pulled.result c.push_pulled.result c.push_pulled.ensures.follows c.verified_pull-pulled.ensures.faults

pub returns-clause-unsent : goal.returns-clause-unsent
returns-clause-unsent g c = refused_pull _ c.verified_pull-pulled.result c.push_pulled.result c.push_pulled.ensures.follows c.push_pulled.ensures.unsent

pub returns-clause-named : goal.returns-clause-named
returns-clause-named g c = pulled_as _ c.verified_pull-pulled.result c.push_pulled.result c.push_pulled.ensures.follows (named_if (reference_in c.args.image.now) c.args.accepted_media_types.now (reference_in c.args.target.now) c.verified_pull-pulled.result c.verified_pull-pulled.ensures.links)

pub returns-clause-typed : goal.returns-clause-typed
returns-clause-typed g c = pulled_as _ c.verified_pull-pulled.result c.push_pulled.result c.push_pulled.ensures.follows (typed_if (policy_context c.args.policy.now (λ b. (goal.VerificationConstraint-dyn g (b.vtable, b.value)).accepts b.value) (trusts (g.V.SignatureVerifier.valid c.args.verifier.now) (g.O.Offline.vouched c.args.judge.now) c.args.client.now)) (reference_in c.args.image.now) c.args.accepted_media_types.now _ c.verified_pull-pulled.result c.verified_pull-pulled.ensures.chain)

pub returns-clause-mirrored : goal.returns-clause-mirrored
returns-clause-mirrored g c = c.push_pulled.ensures.side.mirrored

pub returns-clause-pushed : goal.returns-clause-pushed
returns-clause-pushed g c = c.push_pulled.ensures.side.pushed

pub returns-clause-stopped : goal.returns-clause-stopped
returns-clause-stopped g c = c.push_pulled.ensures.side.stopped

pub returns-clause-no_target_memory : goal.returns-clause-no_target_memory
returns-clause-no_target_memory g c = c.push_pulled.ensures.side.no_memory

pub returns-clause-target_fault : goal.returns-clause-target_fault
returns-clause-target_fault g c = c.push_pulled.ensures.side.fault

pub returns-clause-confined : goal.returns-clause-confined
returns-clause-confined g c = c.verified_pull-pulled.ensures.confined

pub returns-clause-confined_target : goal.returns-clause-confined_target
returns-clause-confined_target g c = c.push_pulled.ensures.side.confined

pub returns-clause-settings : goal.returns-clause-settings
returns-clause-settings g c = c.verified_pull-pulled.ensures.settings

pub returns-clause-keys : goal.returns-clause-keys
returns-clause-keys g c = c.verified_pull-pulled.ensures.keys

pub returns-clause-target_settings : goal.returns-clause-target_settings
returns-clause-target_settings g c = c.push_pulled.ensures.settings
