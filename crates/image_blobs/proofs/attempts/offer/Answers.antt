use Rattle.std.proofs.Common.{refl, sym, ◌∙◌, Some}
use Rattle.engine_pull.proofs.AttemptSteps.{fault_is_none, memory_is_none, spills_none, offered_into_refused}
use Rattle.image_blobs.proofs.CutSteps.{cut_missed, cut_unsent, cut_passed, not_instead}
use Rattle.image_blobs.proofs.WithinSize.{within_none, refused_offer, taken_offer, failed_offer}
use Rattle.image_blobs.proofs.attempts.offer.Goals as goal

pub returns-in-Err-Failed-clause-run : goal.returns-in-Err-Failed-clause-run
returns-in-Err-Failed-clause-run g c = λ k next. spills_none _ (cut_missed _ _ _ (Some next) _ _ _ k (c.in-Err-Failed.ensures.missed (rw c.in-Err-Failed.field-0-is refl))) (fault_is_none _)

pub returns-in-Err-WantOfMemory-clause-run : goal.returns-in-Err-WantOfMemory-clause-run
returns-in-Err-WantOfMemory-clause-run g c = λ k next. spills_none _ (cut_unsent _ _ _ (Some next) _ _ _ k (c.in-Err-WantOfMemory.ensures.cut (rw c.in-Err-WantOfMemory.field-0-is refl))) (memory_is_none _)

pub returns-then-is_error-clause-run : goal.returns-then-is_error-clause-run
returns-then-is_error-clause-run g c = λ k next end l later r rest. cut_passed _ _ _ next _ _ _ _ _ end k l _ later r c.in-Ok.ensures.reached (sym c.is_error.ensures ∙ c.if-is_error.true) rest

pub returns-in_err-put_reached-clause-run : goal.returns-in_err-put_reached-clause-run
returns-in_err-put_reached-clause-run g c = λ k next. offered_into_refused next _ _ _ k _ _ _ _ (c.in_err-put_reached.ensures.run _ _ k (Some next) c.in-Ok.ensures.reached (not_instead next c.in-Ok.reached.head (sym c.is_error.ensures ∙ c.if-is_error.false))) c.from_residual.ensures.1

pub returns-clause-run : goal.returns-clause-run
returns-clause-run g c = λ k next. c.in_ok-put_reached.ensures.run _ _ k (Some next) c.in-Ok.ensures.reached (not_instead next c.in-Ok.reached.head (sym c.is_error.ensures ∙ c.if-is_error.false))

pub returns-in-Err-Failed-clause-within : goal.returns-in-Err-Failed-clause-within
returns-in-Err-Failed-clause-within g c = within_none _ _

pub returns-in-Err-Failed-clause-unwritten : goal.returns-in-Err-Failed-clause-unwritten
returns-in-Err-Failed-clause-unwritten g c = failed_offer _ _

pub returns-in-Err-WantOfMemory-clause-within : goal.returns-in-Err-WantOfMemory-clause-within
returns-in-Err-WantOfMemory-clause-within g c = within_none _ _

pub returns-in-Err-WantOfMemory-clause-unwritten : goal.returns-in-Err-WantOfMemory-clause-unwritten
returns-in-Err-WantOfMemory-clause-unwritten g c = failed_offer _ _

pub returns-then-is_error-clause-within : goal.returns-then-is_error-clause-within
returns-then-is_error-clause-within g c = within_none _ _

pub returns-then-is_error-clause-unwritten : goal.returns-then-is_error-clause-unwritten
returns-then-is_error-clause-unwritten g c = λ skipped. refl

pub returns-in_err-put_reached-clause-within : goal.returns-in_err-put_reached-clause-within
returns-in_err-put_reached-clause-within g c = c.in_err-put_reached.ensures.within

pub returns-in_err-put_reached-clause-unwritten : goal.returns-in_err-put_reached-clause-unwritten
returns-in_err-put_reached-clause-unwritten g c = refused_offer _ _ _ c.from_residual.ensures.1

pub returns-clause-within : goal.returns-clause-within
returns-clause-within g c = c.in_ok-put_reached.ensures.within

pub returns-clause-unwritten : goal.returns-clause-unwritten
returns-clause-unwritten g c = taken_offer _
