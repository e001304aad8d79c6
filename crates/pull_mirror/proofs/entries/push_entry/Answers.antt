use Rattle.registry_cache.specs.Auths.{registry_auth}
use Rattle.registry_calls.specs.Direct.{reference_in}
use Rattle.oci_engine.specs.Refusals.{at_moment}
use Rattle.pull_mirror.proofs.Confining.{nothing_sent}
use Rattle.pull_mirror.proofs.Copying.{no_ok, unrefused}
use Rattle.pull_mirror.proofs.EntrySending.{entry_all_in, entry_fault, entry_unsent, stored_confined}
use Rattle.pull_mirror.proofs.entries.push_entry.Goals as goal

pub returns-in_err-auth-clause-run : goal.returns-in_err-auth-clause-run
returns-in_err-auth-clause-run g c = entry_unsent c.from_residual.result c.from_residual.ensures.1

pub returns-in_err-auth-clause-pushed : goal.returns-in_err-auth-clause-pushed
returns-in_err-auth-clause-pushed g c = no_ok _ c.from_residual.result _ c.from_residual.ensures.1

pub returns-in_err-auth-clause-stopped : goal.returns-in_err-auth-clause-stopped
returns-in_err-auth-clause-stopped g c = unrefused _ c.from_residual.result c.from_residual.ensures.1

pub returns-in_err-auth-clause-confined : goal.returns-in_err-auth-clause-confined
returns-in_err-auth-clause-confined g c = nothing_sent (at_moment c.args.client.now c.args.moment) _ _ _ _

pub returns-in_err-auth-clause-fault : goal.returns-in_err-auth-clause-fault
returns-in_err-auth-clause-fault g c = entry_fault (at_moment c.args.client.now c.args.moment) (reference_in c.args.target.now) (registry_auth c.args.auth.now) _ _ _ _ _ c.from_residual.result (returns-in_err-auth-clause-stopped g c)

pub returns-in_err-plan-clause-run : goal.returns-in_err-plan-clause-run
returns-in_err-plan-clause-run g c = entry_unsent c.from_residual-in_err-plan.result c.from_residual-in_err-plan.ensures.1

pub returns-in_err-plan-clause-pushed : goal.returns-in_err-plan-clause-pushed
returns-in_err-plan-clause-pushed g c = no_ok _ c.from_residual-in_err-plan.result _ c.from_residual-in_err-plan.ensures.1

pub returns-in_err-plan-clause-stopped : goal.returns-in_err-plan-clause-stopped
returns-in_err-plan-clause-stopped g c = unrefused _ c.from_residual-in_err-plan.result c.from_residual-in_err-plan.ensures.1

pub returns-in_err-plan-clause-confined : goal.returns-in_err-plan-clause-confined
returns-in_err-plan-clause-confined g c = nothing_sent (at_moment c.args.client.now c.args.moment) _ _ _ _

pub returns-in_err-plan-clause-fault : goal.returns-in_err-plan-clause-fault
returns-in_err-plan-clause-fault g c = entry_fault (at_moment c.args.client.now c.args.moment) (reference_in c.args.target.now) (registry_auth c.args.auth.now) _ _ _ _ _ c.from_residual-in_err-plan.result (returns-in_err-plan-clause-stopped g c)

pub returns-clause-run : goal.returns-clause-run
returns-clause-run g c = rw (c.as_slice.ensures, c.in_ok-plan.ensures, c.reference-target.ensures.inner, c.in_ok-auth.ensures) at c.send_stored_each.ensures.run

pub returns-clause-settings : goal.returns-clause-settings
returns-clause-settings g c = c.send_stored_each.ensures.settings

pub returns-clause-pushed : goal.returns-clause-pushed
returns-clause-pushed g c = rw (c.as_slice.ensures, c.in_ok-plan.ensures, c.reference-target.ensures.inner) at c.send_stored_each.ensures.pushed

pub returns-clause-stopped : goal.returns-clause-stopped
returns-clause-stopped g c = rw (c.as_slice.ensures, c.in_ok-plan.ensures, c.reference-target.ensures.inner, c.in_ok-auth.ensures) at c.send_stored_each.ensures.stopped

pub returns-clause-confined : goal.returns-clause-confined
returns-clause-confined g c =
    stored_confined (at_moment c.args.client.now c.args.moment) (reference_in c.args.target.now) (registry_auth c.args.auth.now) _ (rw c.reference-target.ensures.inner at c.reference-target.ensures.direct) (entry_all_in c.args.found.now (reference_in c.args.target.now)) (returns-clause-run g c)

pub returns-clause-fault : goal.returns-clause-fault
returns-clause-fault g c = entry_fault (at_moment c.args.client.now c.args.moment) (reference_in c.args.target.now) (registry_auth c.args.auth.now) _ _ _ _ _ c.send_stored_each.result (returns-clause-stopped g c)
