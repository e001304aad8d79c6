use Rattle.std.proofs.Common.{◌∙◌}
use Rattle.oci_engine.specs.Refusals.{at_moment}
use Rattle.pull_mirror.specs.DocumentPlans.{parts_planned}
use Rattle.pull_mirror.proofs.Copying.{no_ok, passed_err, url_ended}
use Rattle.pull_mirror.proofs.DocumentCopying.{after_refused, after_stopped, document_refused, document_stopped, first_refused, first_stopped, parts_digests, parts_met}
use Rattle.pull_mirror.proofs.document_copies.send_parts.Goals as goal

pub returns-in_err-send_each-clause-run : goal.returns-in_err-send_each-clause-run
returns-in_err-send_each-clause-run g c = url_ended c.from_residual.result _ c.from_residual.ensures.1 (first_refused (at_moment c.args.client.now c.args.moment) c.args.target.now (parts_planned c.args.plan.now) _ (rw c.as_slice-first.ensures at c.in_err-send_each.ensures.refusal))

pub returns-in_err-send_each-clause-settings : goal.returns-in_err-send_each-clause-settings
returns-in_err-send_each-clause-settings g c = c.in_err-send_each.ensures.settings

pub returns-in_err-send_each-clause-pushed : goal.returns-in_err-send_each-clause-pushed
returns-in_err-send_each-clause-pushed g c = no_ok _ c.from_residual.result _ c.from_residual.ensures.1

pub returns-in_err-send_each-clause-stopped : goal.returns-in_err-send_each-clause-stopped
returns-in_err-send_each-clause-stopped g c = passed_err _ c.from_residual.result _ c.from_residual.ensures.1 (first_stopped (at_moment c.args.client.now c.args.moment) c.args.target.now (parts_planned c.args.plan.now) _ _ _ _ _ (rw c.as_slice-first.ensures at c.in_err-send_each.ensures.stopped))

pub returns-in_err-manifest_url-clause-run : goal.returns-in_err-manifest_url-clause-run
returns-in_err-manifest_url-clause-run g c = url_ended c.from_residual-in_err-manifest_url.result _ c.from_residual-in_err-manifest_url.ensures.1 (document_refused (at_moment c.args.client.now c.args.moment) c.args.target.now (parts_planned c.args.plan.now) _ (rw c.as_slice-first.ensures at c.in_ok-send_each.ensures.made)
    (rw c.in_ok-send_each.ensures.settings at c.in_err-manifest_url.ensures.run))

pub returns-in_err-manifest_url-clause-settings : goal.returns-in_err-manifest_url-clause-settings
returns-in_err-manifest_url-clause-settings g c = c.in_err-manifest_url.ensures.settings ∙ c.in_ok-send_each.ensures.settings

pub returns-in_err-manifest_url-clause-pushed : goal.returns-in_err-manifest_url-clause-pushed
returns-in_err-manifest_url-clause-pushed g c = no_ok _ c.from_residual-in_err-manifest_url.result _ c.from_residual-in_err-manifest_url.ensures.1

pub returns-in_err-manifest_url-clause-stopped : goal.returns-in_err-manifest_url-clause-stopped
returns-in_err-manifest_url-clause-stopped g c = passed_err _ c.from_residual-in_err-manifest_url.result _ c.from_residual-in_err-manifest_url.ensures.1 (document_stopped (at_moment c.args.client.now c.args.moment) c.args.target.now (parts_planned c.args.plan.now) _ (rw c.as_slice-first.ensures at c.in_ok-send_each.ensures.made)
    c.in_err-manifest_url.ensures.refusal (rw c.in_ok-send_each.ensures.settings at c.in_err-manifest_url.ensures.run))

pub returns-in_err-send_each-2-clause-run : goal.returns-in_err-send_each-2-clause-run
returns-in_err-send_each-2-clause-run g c = url_ended c.from_residual-in_err-send_each-2.result _ c.from_residual-in_err-send_each-2.ensures.1 (after_refused (at_moment c.args.client.now c.args.moment) c.args.target.now (parts_planned c.args.plan.now) _ (rw c.as_slice-first.ensures at c.in_ok-send_each.ensures.made)
    (rw c.in_ok-send_each.ensures.settings at c.in_ok-manifest_url.ensures.run) (rw (c.in_ok-manifest_url.ensures.settings ∙ c.in_ok-send_each.ensures.settings, c.as_slice-after.ensures) at c.in_err-send_each-2.ensures.refusal))

pub returns-in_err-send_each-2-clause-settings : goal.returns-in_err-send_each-2-clause-settings
returns-in_err-send_each-2-clause-settings g c = c.in_err-send_each-2.ensures.settings ∙ c.in_ok-manifest_url.ensures.settings ∙ c.in_ok-send_each.ensures.settings

pub returns-in_err-send_each-2-clause-pushed : goal.returns-in_err-send_each-2-clause-pushed
returns-in_err-send_each-2-clause-pushed g c = no_ok _ c.from_residual-in_err-send_each-2.result _ c.from_residual-in_err-send_each-2.ensures.1

pub returns-in_err-send_each-2-clause-stopped : goal.returns-in_err-send_each-2-clause-stopped
returns-in_err-send_each-2-clause-stopped g c = passed_err _ c.from_residual-in_err-send_each-2.result _ c.from_residual-in_err-send_each-2.ensures.1 (after_stopped (at_moment c.args.client.now c.args.moment) c.args.target.now (parts_planned c.args.plan.now) _ _ _ (rw c.as_slice-first.ensures at c.in_ok-send_each.ensures.made)
    (rw c.in_ok-send_each.ensures.settings at c.in_ok-manifest_url.ensures.run) (rw (c.in_ok-manifest_url.ensures.settings ∙ c.in_ok-send_each.ensures.settings, c.as_slice-after.ensures) at c.in_err-send_each-2.ensures.stopped))

pub returns-clause-run : goal.returns-clause-run
returns-clause-run g c = parts_met (at_moment c.args.client.now c.args.moment) c.args.target.now (parts_planned c.args.plan.now) (rw c.as_slice-first.ensures at c.in_ok-send_each.ensures.made)
    (rw c.in_ok-send_each.ensures.settings at c.in_ok-manifest_url.ensures.run) (rw (c.in_ok-manifest_url.ensures.settings ∙ c.in_ok-send_each.ensures.settings, c.as_slice-after.ensures) at c.in_ok-send_each-2.ensures.made)

pub returns-clause-settings : goal.returns-clause-settings
returns-clause-settings g c = c.in_ok-send_each-2.ensures.settings ∙ c.in_ok-manifest_url.ensures.settings ∙ c.in_ok-send_each.ensures.settings

pub returns-clause-pushed : goal.returns-clause-pushed
returns-clause-pushed g c = parts_digests (at_moment c.args.client.now c.args.moment) c.args.target.now (parts_planned c.args.plan.now) c.new-pushed.ensures (rw c.as_slice-first.ensures at c.in_ok-send_each.ensures.digests) c.in_ok-manifest_url.ensures.digests (rw c.as_slice-after.ensures at c.in_ok-send_each-2.ensures.digests)
