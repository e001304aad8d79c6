use Rattle.live_pull.proofs.EarlyEnds.{begun_says, unbegun_says}
use Rattle.live_pull.proofs.live.run.Goals as goal

pub returns-in-Ok : goal.returns-in-Ok
returns-in-Ok g c = record { status = begun_says _ c.in-Ok.settings _ _ _ c.in-Ok.ensures.begun c.serve.ensures.status }

pub returns-in-Err : goal.returns-in-Err
returns-in-Err g c = record { status = rw c.end_with.ensures (unbegun_says c.in-Err.status _ _ c.in-Err.ensures.cause) }
