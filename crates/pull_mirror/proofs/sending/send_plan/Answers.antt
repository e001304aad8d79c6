use Rattle.std.proofs.Common.{◌∙◌}
use Rattle.oci_engine.specs.Refusals.{at_moment}
use Rattle.pull_mirror.proofs.Copying.{url_ended, passed_err, no_ok, all_digests, first_refused, document_refused, signature_refused, image_met, first_stopped, document_stopped, signature_stopped}
use Rattle.pull_mirror.proofs.sending.send_plan.Goals as goal

pub returns-in_err-send_each-clause-run : goal.returns-in_err-send_each-clause-run
returns-in_err-send_each-clause-run g c = λ v plan. url_ended c.from_residual.result _ c.from_residual.ensures.1 (first_refused (at_moment c.args.client.now c.args.moment) c.args.target.now v plan.first plan.document plan.signature _ (rw c.as_slice-first.ensures at c.in_err-send_each.ensures.refusal))

pub returns-in_err-send_each-clause-settings : goal.returns-in_err-send_each-clause-settings
returns-in_err-send_each-clause-settings g c = c.in_err-send_each.ensures.settings

pub returns-in_err-send_each-clause-pushed : goal.returns-in_err-send_each-clause-pushed
returns-in_err-send_each-clause-pushed g c = λ v plan. no_ok _ c.from_residual.result _ c.from_residual.ensures.1

pub returns-in_err-send_each-clause-stopped : goal.returns-in_err-send_each-clause-stopped
returns-in_err-send_each-clause-stopped g c = λ v plan. passed_err _ c.from_residual.result _ c.from_residual.ensures.1 (first_stopped (at_moment c.args.client.now c.args.moment) c.args.target.now v plan.first plan.document plan.signature _ _ _ _ _ (rw c.as_slice-first.ensures at c.in_err-send_each.ensures.stopped))

pub returns-in_err-manifest_url-clause-run : goal.returns-in_err-manifest_url-clause-run
returns-in_err-manifest_url-clause-run g c = λ v plan. url_ended c.from_residual-in_err-manifest_url.result _ c.from_residual-in_err-manifest_url.ensures.1 (document_refused (at_moment c.args.client.now c.args.moment) c.args.target.now v plan.first plan.document plan.signature _ (rw c.as_slice-first.ensures at c.in_ok-send_each.ensures.made)
    (rw c.in_ok-send_each.ensures.settings at c.in_err-manifest_url.ensures.run))

pub returns-in_err-manifest_url-clause-settings : goal.returns-in_err-manifest_url-clause-settings
returns-in_err-manifest_url-clause-settings g c = c.in_err-manifest_url.ensures.settings ∙ c.in_ok-send_each.ensures.settings

pub returns-in_err-manifest_url-clause-pushed : goal.returns-in_err-manifest_url-clause-pushed
returns-in_err-manifest_url-clause-pushed g c = λ v plan. no_ok _ c.from_residual-in_err-manifest_url.result _ c.from_residual-in_err-manifest_url.ensures.1

pub returns-in_err-manifest_url-clause-stopped : goal.returns-in_err-manifest_url-clause-stopped
returns-in_err-manifest_url-clause-stopped g c = λ v plan. passed_err _ c.from_residual-in_err-manifest_url.result _ c.from_residual-in_err-manifest_url.ensures.1 (document_stopped (at_moment c.args.client.now c.args.moment) c.args.target.now v plan.first plan.document plan.signature _ (rw c.as_slice-first.ensures at c.in_ok-send_each.ensures.made)
    c.in_err-manifest_url.ensures.refusal (rw c.in_ok-send_each.ensures.settings at c.in_err-manifest_url.ensures.run))

pub returns-in_err-send_next-clause-run : goal.returns-in_err-send_next-clause-run
returns-in_err-send_next-clause-run g c = λ v plan. url_ended c.from_residual-in_err-send_next.result _ c.from_residual-in_err-send_next.ensures.1 (signature_refused (at_moment c.args.client.now c.args.moment) c.args.target.now v plan.first plan.document plan.signature _ (rw c.as_slice-first.ensures at c.in_ok-send_each.ensures.made)
    (rw c.in_ok-send_each.ensures.settings at c.in_ok-manifest_url.ensures.run) (rw (c.in_ok-manifest_url.ensures.settings ∙ c.in_ok-send_each.ensures.settings) at c.in_err-send_next.ensures.run))

pub returns-in_err-send_next-clause-settings : goal.returns-in_err-send_next-clause-settings
returns-in_err-send_next-clause-settings g c = c.in_err-send_next.ensures.settings ∙ c.in_ok-manifest_url.ensures.settings ∙ c.in_ok-send_each.ensures.settings

pub returns-in_err-send_next-clause-pushed : goal.returns-in_err-send_next-clause-pushed
returns-in_err-send_next-clause-pushed g c = λ v plan. no_ok _ c.from_residual-in_err-send_next.result _ c.from_residual-in_err-send_next.ensures.1

pub returns-in_err-send_next-clause-stopped : goal.returns-in_err-send_next-clause-stopped
returns-in_err-send_next-clause-stopped g c = λ v plan. passed_err _ c.from_residual-in_err-send_next.result _ c.from_residual-in_err-send_next.ensures.1 (signature_stopped (at_moment c.args.client.now c.args.moment) c.args.target.now v plan.first plan.document plan.signature _ (rw c.as_slice-first.ensures at c.in_ok-send_each.ensures.made)
    (rw c.in_ok-send_each.ensures.settings at c.in_ok-manifest_url.ensures.run) c.in_err-send_next.ensures.refusal (rw (c.in_ok-manifest_url.ensures.settings ∙ c.in_ok-send_each.ensures.settings) at c.in_err-send_next.ensures.run))

pub returns-clause-run : goal.returns-clause-run
returns-clause-run g c = λ v plan. image_met (at_moment c.args.client.now c.args.moment) c.args.target.now v plan.first plan.document plan.signature (rw c.as_slice-first.ensures at c.in_ok-send_each.ensures.made)
    (rw c.in_ok-send_each.ensures.settings at c.in_ok-manifest_url.ensures.run) (rw (c.in_ok-manifest_url.ensures.settings ∙ c.in_ok-send_each.ensures.settings) at c.in_ok-send_next.ensures.run)

pub returns-clause-settings : goal.returns-clause-settings
returns-clause-settings g c = c.in_ok-send_next.ensures.settings ∙ c.in_ok-manifest_url.ensures.settings ∙ c.in_ok-send_each.ensures.settings

pub returns-clause-pushed : goal.returns-clause-pushed
returns-clause-pushed g c = λ v plan. all_digests (at_moment c.args.client.now c.args.moment) c.args.target.now v plan.first plan.document plan.signature c.new-pushed.ensures (rw c.as_slice-first.ensures at c.in_ok-send_each.ensures.digests) c.in_ok-manifest_url.ensures.digests c.in_ok-send_next.ensures.digests
