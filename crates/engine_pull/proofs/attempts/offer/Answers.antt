use Rattle.std.proofs.Common.{refl, sym, ◌∙◌, inr}
use Rattle.engine_pull.proofs.AttemptSteps.{fault_is_none, memory_is_none, spills_none, offer_missed, offer_cut, spills_passed, offered_into_refused}
use Rattle.engine_steps.proofs.HelperTrees.{reached_untaken, not_ok}
use Rattle.engine_pull.proofs.attempts.offer.Goals as goal

pub returns-in-Err-Failed : goal.returns-in-Err-Failed
returns-in-Err-Failed g c = record { run = λ k next. spills_none _ (offer_missed _ _ _ next _ _ _ k (c.in-Err-Failed.ensures.missed (rw c.in-Err-Failed.field-0-is refl))) (fault_is_none _); untaken = tt }

pub returns-in-Err-WantOfMemory : goal.returns-in-Err-WantOfMemory
returns-in-Err-WantOfMemory g c = record { run = λ k next. spills_none _ (offer_cut _ _ _ next _ _ _ k (c.in-Err-WantOfMemory.ensures.cut (rw c.in-Err-WantOfMemory.field-0-is refl))) (memory_is_none _); untaken = tt }

pub returns-then-is_error : goal.returns-then-is_error
returns-then-is_error g c = record { run = λ k next end l later r rest. spills_passed _ _ next _ _ _ _ _ end k l _ later r c.in-Ok.ensures.reached (sym c.is_error.ensures ∙ c.if-is_error.true) rest; untaken = λ h. (_, reached_untaken _ _ _ _ _ _ c.in-Ok.ensures.reached) }

pub returns-in_err-put_reached : goal.returns-in_err-put_reached
returns-in_err-put_reached g c = record { run = λ k next. offered_into_refused next _ _ _ k _ _ _ _ (c.in_err-put_reached.ensures.run _ _ k _ c.in-Ok.ensures.reached (inr (sym c.is_error.ensures ∙ c.if-is_error.false, next, refl))) c.from_residual.ensures.1; untaken = not_ok _ _ _ c.from_residual.ensures.1 }

pub returns : goal.returns
returns g c = record { run = λ k next. c.in_ok-put_reached.ensures.run _ _ k _ c.in-Ok.ensures.reached (inr (sym c.is_error.ensures ∙ c.if-is_error.false, next, refl)); untaken = λ h. absurd (cc h) }
