use Rattle.std.proofs.Common.{◌∙◌}
use Rattle.oci_engine.specs.Refusals.{at_moment}
use Rattle.pull_mirror.proofs.Asking.{all_were, missing_unasked, not_done, passed, stored_asked}
use Rattle.pull_mirror.proofs.AskingConfined.{asked_confined}
use Rattle.pull_mirror.proofs.questions.ask_stored.Goals as goal

pub returns-in_err-store_auth_if_needed-clause-run : goal.returns-in_err-store_auth_if_needed-clause-run
returns-in_err-store_auth_if_needed-clause-run g c = rw c.in_err-store_auth_if_needed.ensures.err (missing_unasked c.from_residual.result c.from_residual.ensures.1)

pub returns-in_err-store_auth_if_needed-clause-settings : goal.returns-in_err-store_auth_if_needed-clause-settings
returns-in_err-store_auth_if_needed-clause-settings g c = c.in_err-store_auth_if_needed.ensures.settings

pub returns-in_err-store_auth_if_needed-clause-stopped : goal.returns-in_err-store_auth_if_needed-clause-stopped
returns-in_err-store_auth_if_needed-clause-stopped g c = passed _ c.from_residual.result _ c.from_residual.ensures.1 tt

pub returns-in_err-store_auth_if_needed-clause-there : goal.returns-in_err-store_auth_if_needed-clause-there
returns-in_err-store_auth_if_needed-clause-there g c = not_done _ c.from_residual.result _ c.from_residual.ensures.1

pub returns-in_err-store_auth_if_needed-clause-confined : goal.returns-in_err-store_auth_if_needed-clause-confined
returns-in_err-store_auth_if_needed-clause-confined g c =
    asked_confined (at_moment c.args.client.now c.args.moment) c.args.target.now c.args.auth.now c.args.digests.now (returns-in_err-store_auth_if_needed-clause-run g c)

pub returns-clause-run : goal.returns-clause-run
returns-clause-run g c = stored_asked (at_moment c.args.client.now c.args.moment) c.args.target.now c.args.auth.now c.args.digests.now (rw c.resolve_registry.ensures at c.in_ok-store_auth_if_needed.ensures.ok) (rw c.in_ok-store_auth_if_needed.ensures.settings at c.ask_each.ensures.run)

pub returns-clause-settings : goal.returns-clause-settings
returns-clause-settings g c = c.ask_each.ensures.settings ∙ c.in_ok-store_auth_if_needed.ensures.settings

pub returns-clause-stopped : goal.returns-clause-stopped
returns-clause-stopped g c = rw (c.in_ok-store_auth_if_needed.ensures.settings, c.in_ok-store_auth_if_needed.ensures.ok, c.resolve_registry.ensures) at c.ask_each.ensures.stopped

pub returns-clause-there : goal.returns-clause-there
returns-clause-there g c =
    all_were (at_moment c.args.client.now c.args.moment) c.args.target.now c.args.digests.now c.ask_each.result
    (rw (c.in_ok-store_auth_if_needed.ensures.settings, c.in_ok-store_auth_if_needed.ensures.ok, c.resolve_registry.ensures) at c.ask_each.ensures.run)

pub returns-clause-confined : goal.returns-clause-confined
returns-clause-confined g c = asked_confined (at_moment c.args.client.now c.args.moment) c.args.target.now c.args.auth.now c.args.digests.now (returns-clause-run g c)
