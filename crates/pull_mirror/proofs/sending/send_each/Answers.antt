use Rattle.std.proofs.Common.{refl, sym, ◌∙◌, append-nil}
use Rattle.std.proofs.lemmas.List.{take_all}
use Rattle.oci_engine.specs.Refusals.{at_moment}
use Rattle.pull_mirror.proofs.Copying.{passed_err, each_ended, each_stopped, each_made, each_digests}
use Rattle.pull_mirror.proofs.Pushing.{made_none}
use Rattle.pull_mirror.proofs.sending.send_each.Goals as goal

pub loop-push-init : goal.loop-push-init
loop-push-init g c = (made_none _ _ _ _, sym (append-nil _), refl)

pub returns-in_err-send_next-clause-settings : goal.returns-in_err-send_next-clause-settings
returns-in_err-send_next-clause-settings g c = c.in_err-send_next.ensures.settings ∙ c.loop-push.invariant.2

pub returns-in_err-send_next-clause-refusal : goal.returns-in_err-send_next-clause-refusal
returns-in_err-send_next-clause-refusal g c =
    passed_err _ c.from_residual.result _ c.from_residual.ensures.1 (each_ended (at_moment c.args.client.now c.args.moment) c.args.target.now c.args.pushes.now c.loop-push.push-index c.push-item.result c.loop-push-test.true c.push-item.is _ c.loop-push.invariant.0
    (rw c.loop-push.invariant.2 at c.in_err-send_next.ensures.run))

pub returns-in_err-send_next-clause-stopped : goal.returns-in_err-send_next-clause-stopped
returns-in_err-send_next-clause-stopped g c =
    passed_err _ c.from_residual.result _ c.from_residual.ensures.1 (each_stopped (at_moment c.args.client.now c.args.moment) c.args.target.now c.args.pushes.now c.loop-push.push-index c.push-item.result c.loop-push-test.true c.push-item.is _ c.loop-push.invariant.0
    c.in_err-send_next.ensures.refusal (rw c.loop-push.invariant.2 at c.in_err-send_next.ensures.run))

pub loop-push-preserved : goal.loop-push-preserved
loop-push-preserved g c = (
  each_made (at_moment c.args.client.now c.args.moment) c.args.target.now c.args.pushes.now c.loop-push.push-index c.push-item.result c.loop-push-test.true c.push-item.is c.loop-push.invariant.0 (rw c.loop-push.invariant.2 at c.in_ok-send_next.ensures.run),
  each_digests (at_moment c.args.client.now c.args.moment) c.args.target.now c.args.pushes.now c.loop-push.push-index c.push-item.result c.loop-push-test.true c.push-item.is _ c.loop-push.invariant.1 c.in_ok-send_next.ensures.digests,
  c.in_ok-send_next.ensures.settings ∙ c.loop-push.invariant.2,
)

pub returns-clause-made : goal.returns-clause-made
returns-clause-made g c = rw (take_all _ _ c.loop-push-test.false) at c.loop-push.invariant.0

pub returns-clause-digests : goal.returns-clause-digests
returns-clause-digests g c = rw (take_all _ _ c.loop-push-test.false) at c.loop-push.invariant.1
