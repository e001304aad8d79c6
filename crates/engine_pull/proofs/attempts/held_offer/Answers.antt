use Rattle.std.proofs.Common.{refl, sym, ◌∙◌, inr}
use Rattle.engine_pull.proofs.AttemptSteps.{offer_missed, offer_cut, offer_passed, offered_refused}
use Rattle.engine_steps.proofs.HelperTrees.{reached_untaken, not_ok}
use Rattle.engine_pull.proofs.attempts.held_offer.Goals as goal

pub returns-in-Err-Failed : goal.returns-in-Err-Failed
returns-in-Err-Failed g c = record { run = λ k next. offer_missed _ _ _ next _ _ _ k (c.in-Err-Failed.ensures.missed (rw c.in-Err-Failed.field-0-is refl)); untaken = tt }

pub returns-in-Err-WantOfMemory : goal.returns-in-Err-WantOfMemory
returns-in-Err-WantOfMemory g c = record { run = λ k next. offer_cut _ _ _ next _ _ _ k (c.in-Err-WantOfMemory.ensures.cut (rw c.in-Err-WantOfMemory.field-0-is refl)); untaken = tt }

pub returns-then-is_error : goal.returns-then-is_error
returns-then-is_error g c = record { run = λ k next end l r rest. offer_passed _ _ _ next _ _ _ _ _ end k l r c.in-Ok.ensures.reached (sym c.is_error.ensures ∙ c.if-is_error.true) rest; untaken = λ h. (_, reached_untaken _ _ _ _ _ _ c.in-Ok.ensures.reached) }

pub returns-in_err-body : goal.returns-in_err-body
returns-in_err-body g c = record { run = λ k next. offered_refused next _ _ _ k _ _ (c.in_err-body.ensures.run _ _ k _ c.in-Ok.ensures.reached (inr (sym c.is_error.ensures ∙ c.if-is_error.false, next, refl))) c.from_residual.ensures.1; untaken = not_ok _ _ _ c.from_residual.ensures.1 }

pub returns : goal.returns
returns g c = record { run = λ k next. c.in_ok-body.ensures.run _ _ k _ c.in-Ok.ensures.reached (inr (sym c.is_error.ensures ∙ c.if-is_error.false, next, refl)); untaken = λ h. absurd (cc h) }
