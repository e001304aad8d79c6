use Rattle.std.proofs.Common.{take_all, refl, ◌∙◌}
use Rattle.oci_engine.specs.Refusals.{at_moment}
use Rattle.pull_mirror.proofs.Asking.{each_ended, each_stopped, each_there, missing_passed, passed, there_all, there_none}
use Rattle.pull_mirror.proofs.questions.ask_each.Goals as goal

pub loop-digest-init : goal.loop-digest-init
loop-digest-init g c = (there_none _ _ _ _, refl)

pub returns-in_err-ask_one-clause-run : goal.returns-in_err-ask_one-clause-run
returns-in_err-ask_one-clause-run g c =
    missing_passed c.from_residual.result _ c.from_residual.ensures.1 (each_ended (at_moment c.args.client.now c.args.moment) c.args.target.now c.args.digests.now c.loop-digest.digest-index c.digest-item.result c.loop-digest-test.true c.digest-item.is _ c.loop-digest.invariant.0
    c.in_err-ask_one.ensures.about (rw c.loop-digest.invariant.1 at c.in_err-ask_one.ensures.run))

pub returns-in_err-ask_one-clause-settings : goal.returns-in_err-ask_one-clause-settings
returns-in_err-ask_one-clause-settings g c = c.in_err-ask_one.ensures.settings ∙ c.loop-digest.invariant.1

pub returns-in_err-ask_one-clause-stopped : goal.returns-in_err-ask_one-clause-stopped
returns-in_err-ask_one-clause-stopped g c =
    passed _ c.from_residual.result _ c.from_residual.ensures.1 (each_stopped (at_moment c.args.client.now c.args.moment) c.args.target.now c.args.digests.now c.loop-digest.digest-index c.digest-item.result c.loop-digest-test.true c.digest-item.is _ c.loop-digest.invariant.0
    c.in_err-ask_one.ensures.about (rw c.loop-digest.invariant.1 at c.in_err-ask_one.ensures.run))

pub loop-digest-preserved : goal.loop-digest-preserved
loop-digest-preserved g c = (
  each_there (at_moment c.args.client.now c.args.moment) c.args.target.now c.args.digests.now c.loop-digest.digest-index c.digest-item.result c.loop-digest-test.true c.digest-item.is c.loop-digest.invariant.0 (rw c.loop-digest.invariant.1 at c.in_ok-ask_one.ensures.run),
  c.in_ok-ask_one.ensures.settings ∙ c.loop-digest.invariant.1,
)

pub returns-clause-run : goal.returns-clause-run
returns-clause-run g c = there_all _ _ (rw (take_all _ _ c.loop-digest-test.false) at c.loop-digest.invariant.0)
