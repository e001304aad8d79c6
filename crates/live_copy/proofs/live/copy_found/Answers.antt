use Rattle.live_copy.proofs.Ending.{handed_ends, unhanded_ends}
use Rattle.live_copy.proofs.live.copy_found.Goals as goal

pub returns-in-Ok : goal.returns-in-Ok
returns-in-Ok g c = handed_ends c.args.opened.now c.args.found.now _ _ _ c.ask_and_copy.result.status c.in-Ok.ensures.handed c.ask_and_copy.ensures

pub returns-in-Err : goal.returns-in-Err
returns-in-Err g c = rw c.end_with.ensures (unhanded_ends c.args.opened.now c.args.found.now _ _ c.in-Err.status c.in-Err.ensures.cause)
