use Rattle.std.proofs.Common.{refl, sym, ◌∙◌}
use Rattle.engine_steps.proofs.HelperTrees.{reached_untaken, not_ok}
use Rattle.engine_streams.proofs.HeadOutcomes.{judged_missed, judged_cut, judged_refused, judged_on, judged_taken, passes, passed_over, streams_too, opened_here, not_opened, left_here}
use Rattle.engine_streams.proofs.asking.offered.Goals as goal

pub returns-in-Err-Failed : goal.returns-in-Err-Failed
returns-in-Err-Failed g c = record { run = λ k. judged_missed _ _ _ _ _ _ k (c.in-Err-Failed.ensures.missed (rw c.in-Err-Failed.field-0-is refl)); left = tt; untaken = tt }

pub returns-in-Err-WantOfMemory : goal.returns-in-Err-WantOfMemory
returns-in-Err-WantOfMemory g c = record { run = λ k. judged_cut _ _ _ _ _ _ k (c.in-Err-WantOfMemory.ensures.cut (rw c.in-Err-WantOfMemory.field-0-is refl)); left = tt; untaken = tt }

pub returns-then-is_error : goal.returns-then-is_error
returns-then-is_error g c = record { run = λ k. judged_taken _ _ _ _ _ _ _ _ k _ c.in-Ok.ensures.reached (passes _ _ (sym c.is_error.ensures ∙ c.if-is_error.true)) (passed_over _ _ _ (sym c.is_error.ensures ∙ c.if-is_error.true)); left = tt; untaken = λ h. (_, reached_untaken _ _ _ _ _ _ c.in-Ok.ensures.reached) }

pub returns-then-not-is_streamed : goal.returns-then-not-is_streamed
returns-then-not-is_streamed g c = record { run = λ k. judged_refused _ _ _ _ _ _ _ _ _ k _ c.in-Ok.ensures.reached (streams_too _ _ _ (sym c.is_error.ensures ∙ c.if-is_error.false) (sym c.is_streamed.ensures ∙ c.if-not-is_streamed.true)) c.refused.ensures.count c.refused.ensures.told c.refused.ensures.steady c.refused.ensures.cause; left = tt; untaken = tt }

pub returns-in_err-opening : goal.returns-in_err-opening
returns-in_err-opening g c = record { run = λ k. judged_on _ _ _ _ _ _ _ _ k _ _ c.in-Ok.ensures.reached (streams_too _ _ _ (sym c.is_error.ensures ∙ c.if-is_error.false) (sym c.is_streamed.ensures ∙ c.if-not-is_streamed.false)) (not_opened _ _ _ _ (sym c.is_error.ensures ∙ c.if-is_error.false) c.in_err-opening.ensures) c.from_residual.ensures.1; left = not_ok _ _ _ c.from_residual.ensures.1; untaken = not_ok _ _ _ c.from_residual.ensures.1 }

pub returns : goal.returns
returns g c = record { run = λ k. judged_taken _ _ _ _ _ _ _ _ k _ c.in-Ok.ensures.reached (streams_too _ _ _ (sym c.is_error.ensures ∙ c.if-is_error.false) (sym c.is_streamed.ensures ∙ c.if-not-is_streamed.false)) (opened_here _ _ _ _ (sym c.is_error.ensures ∙ c.if-is_error.false) c.in_ok-opening.ensures); left = left_here _ _ _ _ _ _ _ _ c.in-Ok.ensures.reached c.in_ok-opening.ensures; untaken = λ h. absurd (cc h) }
