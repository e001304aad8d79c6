use Rattle.std.proofs.Common.{sym, ◌∙◌}
use Rattle.json_tables.proofs.Refusals.{passed_on, behind}
use Rattle.live_host.proofs.FrameWords.{behind_some}
use Rattle.live_admit.specs.Frames.{review_frame_of}
use Rattle.live_admit.proofs.frames.ReviewFrameReads.read_value.Goals as goal

pub returns-in_err-moment : goal.returns-in_err-moment
unfolding review_frame_of
returns-in_err-moment c =
    passed_on _ _ _ (behind _ _ c.in_ok-only.ensures (behind_some _ _ _ (sym c.is_frame.ensures ∙ c.if-not-is_frame.false) (λ name. c.in_err-moment.ensures.refused _))) c.from_residual-in_err-moment.ensures
