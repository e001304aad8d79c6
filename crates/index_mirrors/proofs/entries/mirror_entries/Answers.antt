use Rattle.std.proofs.Common.{take_all, refl, ◌∙◌}
use Rattle.index_mirrors.proofs.AllImages.{next_mirrored, next_stopped, none_mirrored, passed_stop}
use Rattle.index_mirrors.proofs.entries.mirror_entries.Goals as goal

pub loop-entry-init : goal.loop-entry-init
loop-entry-init g c = (none_mirrored _ _ _ _, refl)

pub returns-in_err-mirror_entry-clause-course : goal.returns-in_err-mirror_entry-clause-course
returns-in_err-mirror_entry-clause-course g c =
    passed_stop _ _ _ c.args.entries.now _ _ c.from_residual.result _ c.from_residual.ensures.1
    (next_stopped _ _ _ c.args.entries.now c.loop-entry.entry-index c.entry-item.result c.loop-entry-test.true c.entry-item.is _ c.loop-entry.invariant.0 (rw c.loop-entry.invariant.1 at c.in_err-mirror_entry.ensures.course))

pub returns-in_err-mirror_entry-clause-settings : goal.returns-in_err-mirror_entry-clause-settings
returns-in_err-mirror_entry-clause-settings g c = c.in_err-mirror_entry.ensures.settings ∙ c.loop-entry.invariant.1

pub loop-entry-preserved : goal.loop-entry-preserved
loop-entry-preserved g c = (
  next_mirrored _ _ _ c.args.entries.now c.loop-entry.entry-index c.entry-item.result c.loop-entry-test.true c.entry-item.is _ c.loop-entry.invariant.0 (rw c.loop-entry.invariant.1 at c.in_ok-mirror_entry.ensures.course),
  c.in_ok-mirror_entry.ensures.settings ∙ c.loop-entry.invariant.1,
)

pub returns-clause-course : goal.returns-clause-course
returns-clause-course g c = rw (take_all _ _ c.loop-entry-test.false) at c.loop-entry.invariant.0
