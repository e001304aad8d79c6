use Rattle.json_tables.proofs.Refusals.{passed_on, behind}
use Rattle.live_pull.specs.Target.{target_of}
use Rattle.live_pull.proofs.target.TargetSettingsReads.read_value.Goals as goal

pub returns-in_err-reference : goal.returns-in_err-reference
unfolding target_of
returns-in_err-reference c =
    passed_on _ _ _ (behind _ _ c.in_ok-only.ensures (c.in_err-reference.ensures.refused _)) c.from_residual-in_err-reference.ensures
