use Rattle.std.proofs.Common.{refl, inl}
use Rattle.engine_pull.proofs.AttemptSteps.{fault_is_none, memory_is_none, spills_none, blob_missed, blob_cut, spills_on}
use Rattle.engine_pull.proofs.attempts.attempt.Goals as goal

pub returns-in-Err-Failed : goal.returns-in-Err-Failed
returns-in-Err-Failed g c = λ k. spills_none _ (blob_missed _ _ _ _ _ _ k (c.in-Err-Failed.ensures.missed (rw c.in-Err-Failed.field-0-is refl))) (fault_is_none _)

pub returns-in-Err-WantOfMemory : goal.returns-in-Err-WantOfMemory
returns-in-Err-WantOfMemory g c = λ k. spills_none _ (blob_cut _ _ _ _ _ _ k (c.in-Err-WantOfMemory.ensures.cut (rw c.in-Err-WantOfMemory.field-0-is refl))) (memory_is_none _)

pub returns-in_err-put_reached : goal.returns-in_err-put_reached
returns-in_err-put_reached g c = λ k. spills_on (c.in_err-put_reached.ensures.run _ _ k _ c.in-Ok.ensures.reached (inl refl)) c.from_residual.ensures.1

pub returns : goal.returns
returns g c = λ k. c.in_ok-put_reached.ensures.run _ _ k _ c.in-Ok.ensures.reached (inl refl)
