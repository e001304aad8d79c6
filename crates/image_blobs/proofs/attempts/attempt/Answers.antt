use Rattle.std.proofs.Common.{refl, None}
use Rattle.engine_pull.proofs.AttemptSteps.{fault_is_none, memory_is_none, spills_none, spills_on}
use Rattle.image_blobs.proofs.CutSteps.{cut_missed, cut_unsent}
use Rattle.image_blobs.proofs.WithinSize.{within_none}
use Rattle.image_blobs.proofs.attempts.attempt.Goals as goal

pub returns-in-Err-Failed-clause-run : goal.returns-in-Err-Failed-clause-run
returns-in-Err-Failed-clause-run g c = λ k. spills_none _ (cut_missed _ _ _ None _ _ _ k (c.in-Err-Failed.ensures.missed (rw c.in-Err-Failed.field-0-is refl))) (fault_is_none _)

pub returns-in-Err-WantOfMemory-clause-run : goal.returns-in-Err-WantOfMemory-clause-run
returns-in-Err-WantOfMemory-clause-run g c = λ k. spills_none _ (cut_unsent _ _ _ None _ _ _ k (c.in-Err-WantOfMemory.ensures.cut (rw c.in-Err-WantOfMemory.field-0-is refl))) (memory_is_none _)

pub returns-in_err-put_reached-clause-run : goal.returns-in_err-put_reached-clause-run
returns-in_err-put_reached-clause-run g c = λ k. spills_on (c.in_err-put_reached.ensures.run _ _ k None c.in-Ok.ensures.reached refl) c.from_residual.ensures.1

pub returns-clause-run : goal.returns-clause-run
returns-clause-run g c = λ k. c.in_ok-put_reached.ensures.run _ _ k None c.in-Ok.ensures.reached refl

pub returns-in-Err-Failed-clause-within : goal.returns-in-Err-Failed-clause-within
returns-in-Err-Failed-clause-within g c = within_none _ _

pub returns-in-Err-WantOfMemory-clause-within : goal.returns-in-Err-WantOfMemory-clause-within
returns-in-Err-WantOfMemory-clause-within g c = within_none _ _

pub returns-in_err-put_reached-clause-within : goal.returns-in_err-put_reached-clause-within
returns-in_err-put_reached-clause-within g c = c.in_err-put_reached.ensures.within

pub returns-clause-within : goal.returns-clause-within
returns-clause-within g c = c.in_ok-put_reached.ensures.within
