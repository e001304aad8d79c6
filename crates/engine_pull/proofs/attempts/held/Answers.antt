use Rattle.std.proofs.Common.{refl, inl}
use Rattle.engine_pull.proofs.AttemptSteps.{blob_missed, blob_cut}
use Rattle.oci_protocol.proofs.Exits.{passed_on}
use Rattle.engine_pull.proofs.attempts.held.Goals as goal

pub returns-in-Err-Failed : goal.returns-in-Err-Failed
returns-in-Err-Failed g c = λ k. blob_missed _ _ _ _ _ _ k (c.in-Err-Failed.ensures.missed (rw c.in-Err-Failed.field-0-is refl))

pub returns-in-Err-WantOfMemory : goal.returns-in-Err-WantOfMemory
returns-in-Err-WantOfMemory g c = λ k. blob_cut _ _ _ _ _ _ k (c.in-Err-WantOfMemory.ensures.cut (rw c.in-Err-WantOfMemory.field-0-is refl))

pub returns-in_err-body : goal.returns-in_err-body
returns-in_err-body g c = λ k. passed_on (c.in_err-body.ensures.run _ _ k _ c.in-Ok.ensures.reached (inl refl)) c.from_residual.ensures.1

pub returns : goal.returns
returns g c = λ k. c.in_ok-body.ensures.run _ _ k _ c.in-Ok.ensures.reached (inl refl)
