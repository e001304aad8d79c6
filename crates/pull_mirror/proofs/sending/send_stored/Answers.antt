use Rattle.std.proofs.Common.{◌∙◌, ap}
use Rattle.oci_engine.specs.Refusals.{at_moment}
use Rattle.pull_mirror.proofs.Copying.{url_unsent, unrefused, no_ok, stored_met}
use Rattle.pull_mirror.proofs.sending.send_stored.Goals as goal

pub returns-in_err-store_auth_if_needed-clause-run : goal.returns-in_err-store_auth_if_needed-clause-run
returns-in_err-store_auth_if_needed-clause-run g c = λ v plan. rw c.in_err-store_auth_if_needed.ensures.err (url_unsent c.from_residual.result c.from_residual.ensures.1)

pub returns-in_err-store_auth_if_needed-clause-settings : goal.returns-in_err-store_auth_if_needed-clause-settings
returns-in_err-store_auth_if_needed-clause-settings g c = c.in_err-store_auth_if_needed.ensures.settings

pub returns-in_err-store_auth_if_needed-clause-pushed : goal.returns-in_err-store_auth_if_needed-clause-pushed
returns-in_err-store_auth_if_needed-clause-pushed g c = λ v plan. no_ok _ c.from_residual.result _ c.from_residual.ensures.1

pub returns-in_err-store_auth_if_needed-clause-stopped : goal.returns-in_err-store_auth_if_needed-clause-stopped
returns-in_err-store_auth_if_needed-clause-stopped g c = λ v plan. unrefused _ c.from_residual.result c.from_residual.ensures.1

pub returns-clause-run : goal.returns-clause-run
returns-clause-run g c = λ v plan. stored_met (at_moment c.args.client.now c.args.moment) c.args.target.now c.args.auth.now v (rw c.resolve_registry.ensures at c.in_ok-store_auth_if_needed.ensures.ok) (rw c.in_ok-store_auth_if_needed.ensures.settings at c.send_plan.ensures.run v plan)

pub returns-clause-settings : goal.returns-clause-settings
returns-clause-settings g c = c.send_plan.ensures.settings ∙ c.in_ok-store_auth_if_needed.ensures.settings

pub returns-clause-pushed : goal.returns-clause-pushed
returns-clause-pushed g c = λ v plan. c.send_plan.ensures.pushed v plan

pub returns-clause-stopped : goal.returns-clause-stopped
returns-clause-stopped g c = λ v plan. rw (c.in_ok-store_auth_if_needed.ensures.settings, c.in_ok-store_auth_if_needed.ensures.ok, c.resolve_registry.ensures) at c.send_plan.ensures.stopped v plan
