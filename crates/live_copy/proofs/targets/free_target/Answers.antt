use Rattle.std.proofs.Common.{inl}
use Rattle.registry_cache.specs.Auths.{registry_auth}
use Rattle.registry_calls.specs.Direct.{reference_in}
use Rattle.oci_engine.specs.Refusals.{at_moment}
use Rattle.live_copy.proofs.AskedTags.{passed_tag, tag_unasked}
use Rattle.live_copy.proofs.BothTags.{not_tags, target_fault}
use Rattle.live_copy.proofs.targets.free_target.Goals as goal

pub returns-in_err-auth-clause-run : goal.returns-in_err-auth-clause-run
returns-in_err-auth-clause-run g c = tag_unasked c.from_residual.result c.from_residual.ensures.1

pub returns-in_err-auth-clause-stopped : goal.returns-in_err-auth-clause-stopped
returns-in_err-auth-clause-stopped g c = passed_tag _ c.from_residual.result _ c.from_residual.ensures.1 (inl tt)

pub returns-in_err-auth-clause-confined : goal.returns-in_err-auth-clause-confined
returns-in_err-auth-clause-confined g c = not_tags (at_moment c.args.client.now c.args.moment) (reference_in c.args.to.now.image) _ (registry_auth c.args.to.now.auth) _ _

pub returns-in_err-auth-clause-fault : goal.returns-in_err-auth-clause-fault
returns-in_err-auth-clause-fault g c =
    target_fault (at_moment c.args.client.now c.args.moment) (reference_in c.args.to.now.image) (registry_auth c.args.to.now.auth) c.args.found.now _ _ _ _ c.from_residual.result (returns-in_err-auth-clause-stopped g c)

pub returns-clause-run : goal.returns-clause-run
returns-clause-run g c = rw (c.reference-target.ensures.inner, c.in_ok-auth.ensures) at c.ask_tags.ensures.run

pub returns-clause-stopped : goal.returns-clause-stopped
returns-clause-stopped g c = rw (c.reference-target.ensures.inner, c.in_ok-auth.ensures) at c.ask_tags.ensures.stopped

pub returns-clause-confined : goal.returns-clause-confined
returns-clause-confined g c = rw (c.reference-target.ensures.inner, c.in_ok-auth.ensures) at c.ask_tags.ensures.confined

pub returns-clause-fault : goal.returns-clause-fault
returns-clause-fault g c =
    target_fault (at_moment c.args.client.now c.args.moment) (reference_in c.args.to.now.image) (registry_auth c.args.to.now.auth) c.args.found.now _ _ _ _ c.ask_tags.result (returns-clause-stopped g c)

pub returns-clause-settings : goal.returns-clause-settings
returns-clause-settings g c = c.ask_tags.ensures.settings
