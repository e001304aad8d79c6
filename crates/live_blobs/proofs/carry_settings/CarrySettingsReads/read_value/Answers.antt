use Rattle.std.proofs.Common.{sym, ◌∙◌}
use Rattle.json_tables.proofs.Refusals.{passed_on, behind}
use Rattle.live_host.proofs.FrameWords.{behind_some}
use Rattle.live_blobs.specs.CarrySettings.{carry_of}
use Rattle.live_blobs.proofs.carry_settings.CarrySettingsReads.read_value.Goals as goal

pub returns-in_err-target : goal.returns-in_err-target
unfolding carry_of
returns-in_err-target c =
    passed_on _ _ _ (behind _ _ c.in_ok-only.ensures (behind_some _ _ _ (sym c.is_frame.ensures ∙ c.if-not-is_frame.false) (λ name. c.in_err-target.ensures.refused _))) c.from_residual-in_err-target.ensures
