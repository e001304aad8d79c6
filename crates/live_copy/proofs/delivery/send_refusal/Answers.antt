use Rattle.live_copy.proofs.Ending.{not_told}
use Rattle.live_copy.proofs.delivery.send_refusal.Goals as goal

pub returns-in-Err : goal.returns-in-Err
returns-in-Err g c = rw c.from.ensures (not_told _ c.in-Err.error _ _ c.in-Err.ensures.cause)
