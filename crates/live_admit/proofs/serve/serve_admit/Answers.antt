use Rattle.live_admit.proofs.Reviews.{none_opened}
use Rattle.live_admit.proofs.serve.serve_admit.Goals as goal

pub returns-in-Ok : goal.returns-in-Ok
returns-in-Ok g c = record { status = c.serve_opened.ensures _ (rw c.as_slice.ensures at c.in-Ok.ensures) }

pub returns-in-Err : goal.returns-in-Err
returns-in-Err g c = record { status = rw c.end_with.ensures (none_opened _ _ _) }
