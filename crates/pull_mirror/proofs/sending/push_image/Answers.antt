use Rattle.std.proofs.Common.{refl, Some}
use Rattle.registry_cache.specs.Auths.{registry_auth}
use Rattle.registry_calls.specs.Direct.{reference_in}
use Rattle.oci_engine.specs.Refusals.{at_moment}
use Rattle.pull_mirror.proofs.Confining.{nothing_sent}
use Rattle.pull_mirror.proofs.Copied.{mirrored_confined}
use Rattle.pull_mirror.proofs.Copying.{url_unsent, unrefused, no_ok, no_fault, image_fault}
use Rattle.pull_mirror.proofs.sending.push_image.Goals as goal

pub returns-in_err-auth-clause-run : goal.returns-in_err-auth-clause-run
returns-in_err-auth-clause-run g c = url_unsent c.from_residual.result c.from_residual.ensures.1

pub returns-in_err-auth-clause-pushed : goal.returns-in_err-auth-clause-pushed
returns-in_err-auth-clause-pushed g c = no_ok _ c.from_residual.result _ c.from_residual.ensures.1

pub returns-in_err-auth-clause-stopped : goal.returns-in_err-auth-clause-stopped
returns-in_err-auth-clause-stopped g c = unrefused _ c.from_residual.result c.from_residual.ensures.1

pub returns-in_err-auth-clause-confined : goal.returns-in_err-auth-clause-confined
returns-in_err-auth-clause-confined g c = nothing_sent (at_moment c.args.client.now c.args.moment) _ _ _ _

pub returns-in_err-auth-clause-fault : goal.returns-in_err-auth-clause-fault
returns-in_err-auth-clause-fault g c = no_fault (g.B.Transport.state c.args.transport.now) (g.B.Transport.state c.args.transport.now) c.from_residual.result c.from_residual.ensures.1

pub returns-in_err-text-clause-run : goal.returns-in_err-text-clause-run
returns-in_err-text-clause-run g c = url_unsent c.from_residual-in_err-text.result c.from_residual-in_err-text.ensures.1

pub returns-in_err-text-clause-pushed : goal.returns-in_err-text-clause-pushed
returns-in_err-text-clause-pushed g c = no_ok _ c.from_residual-in_err-text.result _ c.from_residual-in_err-text.ensures.1

pub returns-in_err-text-clause-stopped : goal.returns-in_err-text-clause-stopped
returns-in_err-text-clause-stopped g c = unrefused _ c.from_residual-in_err-text.result c.from_residual-in_err-text.ensures.1

pub returns-in_err-text-clause-confined : goal.returns-in_err-text-clause-confined
returns-in_err-text-clause-confined g c = nothing_sent (at_moment c.args.client.now c.args.moment) _ _ _ _

pub returns-in_err-text-clause-fault : goal.returns-in_err-text-clause-fault
returns-in_err-text-clause-fault g c = no_fault (g.B.Transport.state c.args.transport.now) (g.B.Transport.state c.args.transport.now) c.from_residual-in_err-text.result c.from_residual-in_err-text.ensures.1

pub returns-in_err-plan-clause-run : goal.returns-in_err-plan-clause-run
returns-in_err-plan-clause-run g c = url_unsent c.from_residual-in_err-plan.result c.from_residual-in_err-plan.ensures.1

pub returns-in_err-plan-clause-pushed : goal.returns-in_err-plan-clause-pushed
returns-in_err-plan-clause-pushed g c = no_ok _ c.from_residual-in_err-plan.result _ c.from_residual-in_err-plan.ensures.1

pub returns-in_err-plan-clause-stopped : goal.returns-in_err-plan-clause-stopped
returns-in_err-plan-clause-stopped g c = unrefused _ c.from_residual-in_err-plan.result c.from_residual-in_err-plan.ensures.1

pub returns-in_err-plan-clause-confined : goal.returns-in_err-plan-clause-confined
returns-in_err-plan-clause-confined g c = nothing_sent (at_moment c.args.client.now c.args.moment) _ _ _ _

pub returns-in_err-plan-clause-fault : goal.returns-in_err-plan-clause-fault
returns-in_err-plan-clause-fault g c = no_fault (g.B.Transport.state c.args.transport.now) (g.B.Transport.state c.args.transport.now) c.from_residual-in_err-plan.result c.from_residual-in_err-plan.ensures.1

pub returns-clause-run : goal.returns-clause-run
returns-clause-run g c = (rw (c.reference-target.ensures.inner, c.in_ok-auth.ensures) at c.send_stored.ensures.run) c.args.found.now (rw c.reference-target.ensures.inner at c.in_ok-plan.ensures c.in_ok-text.ensures)

pub returns-clause-settings : goal.returns-clause-settings
returns-clause-settings g c = c.send_stored.ensures.settings

pub returns-clause-pushed : goal.returns-clause-pushed
returns-clause-pushed g c = (rw c.reference-target.ensures.inner at c.send_stored.ensures.pushed) c.args.found.now (rw c.reference-target.ensures.inner at c.in_ok-plan.ensures c.in_ok-text.ensures)

pub returns-clause-stopped : goal.returns-clause-stopped
returns-clause-stopped g c = (rw (c.reference-target.ensures.inner, c.in_ok-auth.ensures) at c.send_stored.ensures.stopped) c.args.found.now (rw c.reference-target.ensures.inner at c.in_ok-plan.ensures c.in_ok-text.ensures)

pub returns-clause-confined : goal.returns-clause-confined
returns-clause-confined g c = mirrored_confined (at_moment c.args.client.now c.args.moment) (reference_in c.args.target.now) (registry_auth c.args.auth.now) c.args.found.now (rw c.reference-target.ensures.inner at c.reference-target.ensures.direct) (returns-clause-run g c)

pub returns-clause-fault : goal.returns-clause-fault
returns-clause-fault g c = image_fault (at_moment c.args.client.now c.args.moment) (reference_in c.args.target.now) _ _ _ _ _ c.send_stored.result (returns-clause-stopped g c)
