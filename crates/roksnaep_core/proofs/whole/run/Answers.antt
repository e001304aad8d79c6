use Rattle.std.proofs.Common.{inl, inr, refl}
use Rattle.roksnaep_core.proofs.whole.run.Goals as goal

pub returns-in-Ok : goal.returns-in-Ok
returns-in-Ok g c = record { status = inl (c.in-Ok.first, _, c.in-Ok.ensures.begun, c.serve_first.ensures) }

pub returns-in-Err : goal.returns-in-Err
returns-in-Err g c = record { status = rw c.end_with.ensures (inr (refl, c.in-Err.ensures.cause)) }
