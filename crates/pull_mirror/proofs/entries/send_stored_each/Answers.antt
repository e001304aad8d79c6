use Rattle.std.proofs.Common.{◌∙◌, ap}
use Rattle.oci_engine.specs.Refusals.{at_moment}
use Rattle.pull_mirror.specs.Pushes.{digests_of}
use Rattle.pull_mirror.specs.Plans.{pushes_of}
use Rattle.pull_mirror.proofs.Copying.{no_ok, passed_err, unrefused}
use Rattle.pull_mirror.proofs.EntrySending.{entry_made, entry_refused, entry_stopped, entry_unsent}
use Rattle.pull_mirror.proofs.entries.send_stored_each.Goals as goal

pub returns-in_err-store_auth_if_needed-clause-run : goal.returns-in_err-store_auth_if_needed-clause-run
returns-in_err-store_auth_if_needed-clause-run g c = rw c.in_err-store_auth_if_needed.ensures.err (entry_unsent c.from_residual.result c.from_residual.ensures.1)

pub returns-in_err-store_auth_if_needed-clause-settings : goal.returns-in_err-store_auth_if_needed-clause-settings
returns-in_err-store_auth_if_needed-clause-settings g c = c.in_err-store_auth_if_needed.ensures.settings

pub returns-in_err-store_auth_if_needed-clause-pushed : goal.returns-in_err-store_auth_if_needed-clause-pushed
returns-in_err-store_auth_if_needed-clause-pushed g c = no_ok _ c.from_residual.result _ c.from_residual.ensures.1

pub returns-in_err-store_auth_if_needed-clause-stopped : goal.returns-in_err-store_auth_if_needed-clause-stopped
returns-in_err-store_auth_if_needed-clause-stopped g c = unrefused _ c.from_residual.result c.from_residual.ensures.1

pub returns-in_err-send_each-clause-run : goal.returns-in_err-send_each-clause-run
returns-in_err-send_each-clause-run g c =
    entry_refused (at_moment c.args.client.now c.args.moment) c.args.target.now c.args.auth.now (pushes_of c.args.pushes.now) c.from_residual-in_err-send_each.result _ c.from_residual-in_err-send_each.ensures.1 (rw c.resolve_registry.ensures at c.in_ok-store_auth_if_needed.ensures.ok) (rw c.in_ok-store_auth_if_needed.ensures.settings at c.in_err-send_each.ensures.refusal)

pub returns-in_err-send_each-clause-settings : goal.returns-in_err-send_each-clause-settings
returns-in_err-send_each-clause-settings g c = c.in_err-send_each.ensures.settings ∙ c.in_ok-store_auth_if_needed.ensures.settings

pub returns-in_err-send_each-clause-pushed : goal.returns-in_err-send_each-clause-pushed
returns-in_err-send_each-clause-pushed g c = no_ok _ c.from_residual-in_err-send_each.result _ c.from_residual-in_err-send_each.ensures.1

pub returns-in_err-send_each-clause-stopped : goal.returns-in_err-send_each-clause-stopped
returns-in_err-send_each-clause-stopped g c =
    passed_err _ c.from_residual-in_err-send_each.result _ c.from_residual-in_err-send_each.ensures.1
    (entry_stopped (at_moment c.args.client.now c.args.moment) c.args.target.now c.args.auth.now (pushes_of c.args.pushes.now) _ _ _ _ _ (rw (c.in_ok-store_auth_if_needed.ensures.settings, c.in_ok-store_auth_if_needed.ensures.ok, c.resolve_registry.ensures) at c.in_err-send_each.ensures.stopped))

pub returns-clause-run : goal.returns-clause-run
returns-clause-run g c =
    entry_made (at_moment c.args.client.now c.args.moment) c.args.target.now c.args.auth.now (pushes_of c.args.pushes.now) (rw c.resolve_registry.ensures at c.in_ok-store_auth_if_needed.ensures.ok) (rw c.in_ok-store_auth_if_needed.ensures.settings at c.in_ok-send_each.ensures.made)

pub returns-clause-settings : goal.returns-clause-settings
returns-clause-settings g c = c.in_ok-send_each.ensures.settings ∙ c.in_ok-store_auth_if_needed.ensures.settings

pub returns-clause-pushed : goal.returns-clause-pushed
returns-clause-pushed g c = rw c.new-pushed.ensures at c.in_ok-send_each.ensures.digests
