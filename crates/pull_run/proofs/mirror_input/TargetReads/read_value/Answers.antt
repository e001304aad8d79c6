use Rattle.json_tables.proofs.Refusals.{passed_on, behind}
use Rattle.pull_run.specs.MirrorInput.{target_of}
use Rattle.pull_run.proofs.mirror_input.TargetReads.read_value.Goals as goal

pub returns-in_err-reference : goal.returns-in_err-reference
unfolding target_of
returns-in_err-reference c =
    passed_on _ _ _ (behind _ _ c.in_ok-only.ensures (c.in_err-reference.ensures.refused _)) c.from_residual-in_err-reference.ensures
