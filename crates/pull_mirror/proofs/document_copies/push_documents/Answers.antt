use Rattle.std.proofs.Common.{Some}
use Rattle.registry_cache.specs.Auths.{registry_auth}
use Rattle.registry_calls.specs.Direct.{reference_in}
use Rattle.oci_engine.specs.Refusals.{at_moment}
use Rattle.pull_mirror.proofs.Asking.{no_result, passed}
use Rattle.pull_mirror.proofs.DocumentCopying.{copy_fault, not_asked, parts_named, planned_in, pushed_as, stopped_as, uncopied}
use Rattle.pull_mirror.proofs.document_copies.push_documents.Goals as goal

pub returns-in_err-auth-clause-run : goal.returns-in_err-auth-clause-run
returns-in_err-auth-clause-run g c = uncopied c.from_residual.result c.from_residual.ensures.1

pub returns-in_err-auth-clause-pushed : goal.returns-in_err-auth-clause-pushed
returns-in_err-auth-clause-pushed g c = no_result _ c.from_residual.result _ c.from_residual.ensures.1

pub returns-in_err-auth-clause-stopped : goal.returns-in_err-auth-clause-stopped
returns-in_err-auth-clause-stopped g c = passed _ c.from_residual.result _ c.from_residual.ensures.1 tt

pub returns-in_err-auth-clause-named : goal.returns-in_err-auth-clause-named
returns-in_err-auth-clause-named g c = parts_named c.args.to.now.tag c.args.found.now (reference_in c.args.to.now.image)

pub returns-in_err-auth-clause-confined : goal.returns-in_err-auth-clause-confined
returns-in_err-auth-clause-confined g c = not_asked (at_moment c.args.client.now c.args.moment) (reference_in c.args.to.now.image) (registry_auth c.args.to.now.auth) _ _

pub returns-in_err-auth-clause-fault : goal.returns-in_err-auth-clause-fault
returns-in_err-auth-clause-fault g c = copy_fault (at_moment c.args.client.now c.args.moment) (reference_in c.args.to.now.image) _ _ _ _ _ _ c.from_residual.result (returns-in_err-auth-clause-stopped g c)

pub returns-in_err-text-clause-run : goal.returns-in_err-text-clause-run
returns-in_err-text-clause-run g c = uncopied c.from_residual-in_err-text.result c.from_residual-in_err-text.ensures.1

pub returns-in_err-text-clause-pushed : goal.returns-in_err-text-clause-pushed
returns-in_err-text-clause-pushed g c = no_result _ c.from_residual-in_err-text.result _ c.from_residual-in_err-text.ensures.1

pub returns-in_err-text-clause-stopped : goal.returns-in_err-text-clause-stopped
returns-in_err-text-clause-stopped g c = passed _ c.from_residual-in_err-text.result _ c.from_residual-in_err-text.ensures.1 tt

pub returns-in_err-text-clause-named : goal.returns-in_err-text-clause-named
returns-in_err-text-clause-named g c = parts_named c.args.to.now.tag c.args.found.now (reference_in c.args.to.now.image)

pub returns-in_err-text-clause-confined : goal.returns-in_err-text-clause-confined
returns-in_err-text-clause-confined g c = not_asked (at_moment c.args.client.now c.args.moment) (reference_in c.args.to.now.image) (registry_auth c.args.to.now.auth) _ _

pub returns-in_err-text-clause-fault : goal.returns-in_err-text-clause-fault
returns-in_err-text-clause-fault g c = copy_fault (at_moment c.args.client.now c.args.moment) (reference_in c.args.to.now.image) _ _ _ _ _ _ c.from_residual-in_err-text.result (returns-in_err-text-clause-stopped g c)

pub returns-in_err-plan-clause-run : goal.returns-in_err-plan-clause-run
returns-in_err-plan-clause-run g c = uncopied c.from_residual-in_err-plan.result c.from_residual-in_err-plan.ensures.1

pub returns-in_err-plan-clause-pushed : goal.returns-in_err-plan-clause-pushed
returns-in_err-plan-clause-pushed g c = no_result _ c.from_residual-in_err-plan.result _ c.from_residual-in_err-plan.ensures.1

pub returns-in_err-plan-clause-stopped : goal.returns-in_err-plan-clause-stopped
returns-in_err-plan-clause-stopped g c = passed _ c.from_residual-in_err-plan.result _ c.from_residual-in_err-plan.ensures.1 tt

pub returns-in_err-plan-clause-named : goal.returns-in_err-plan-clause-named
returns-in_err-plan-clause-named g c = parts_named c.args.to.now.tag c.args.found.now (reference_in c.args.to.now.image)

pub returns-in_err-plan-clause-confined : goal.returns-in_err-plan-clause-confined
returns-in_err-plan-clause-confined g c = not_asked (at_moment c.args.client.now c.args.moment) (reference_in c.args.to.now.image) (registry_auth c.args.to.now.auth) _ _

pub returns-in_err-plan-clause-fault : goal.returns-in_err-plan-clause-fault
returns-in_err-plan-clause-fault g c = copy_fault (at_moment c.args.client.now c.args.moment) (reference_in c.args.to.now.image) _ _ _ _ _ _ c.from_residual-in_err-plan.result (returns-in_err-plan-clause-stopped g c)

pub returns-clause-run : goal.returns-clause-run
returns-clause-run g c = let plan = rw c.reference-target.ensures.inner at c.in_ok-plan.ensures c.in_ok-text.ensures in rw (c.reference-target.ensures.inner, c.in_ok-auth.ensures, plan.asked, plan.parts) at c.send_documents.ensures.run

pub returns-clause-settings : goal.returns-clause-settings
returns-clause-settings g c = c.send_documents.ensures.settings

pub returns-clause-pushed : goal.returns-clause-pushed
returns-clause-pushed g c = pushed_as (rw c.reference-target.ensures.inner at c.in_ok-plan.ensures c.in_ok-text.ensures) c.send_documents.result c.send_documents.ensures.pushed

pub returns-clause-stopped : goal.returns-clause-stopped
returns-clause-stopped g c =
    stopped_as (rw c.reference-target.ensures.inner at c.in_ok-plan.ensures c.in_ok-text.ensures) (at_moment c.args.client.now c.args.moment) _ _ _ _ c.send_documents.result
    (rw (c.reference-target.ensures.inner, c.in_ok-auth.ensures) at c.send_documents.ensures.stopped)

pub returns-clause-named : goal.returns-clause-named
returns-clause-named g c = parts_named c.args.to.now.tag c.args.found.now (reference_in c.args.to.now.image)

pub returns-clause-confined : goal.returns-clause-confined
returns-clause-confined g c =
    let none = rw c.reference-target.ensures.inner at c.reference-target.ensures.direct in
    (rw (c.reference-target.ensures.inner, c.in_ok-auth.ensures) at c.send_documents.ensures.confined) none (planned_in (rw c.reference-target.ensures.inner at c.in_ok-plan.ensures c.in_ok-text.ensures) none)

pub returns-clause-fault : goal.returns-clause-fault
returns-clause-fault g c = copy_fault (at_moment c.args.client.now c.args.moment) (reference_in c.args.to.now.image) _ _ _ _ _ _ c.send_documents.result (returns-clause-stopped g c)
