use Rattle.live_copy.proofs.Ending.{free_ends, taken_ends}
use Rattle.live_copy.proofs.live.ask_and_copy.Goals as goal

pub returns-in-Ok : goal.returns-in-Ok
returns-in-Ok g c = free_ends c.args.opened.now _ c.args.found.now c.ask-streams.ensures.still _ _ _ c.carry_and_push.result.status (rw c.in-Ok.is at c.ask-streams.ensures.asked) c.carry_and_push.ensures

pub returns-in-Err : goal.returns-in-Err
returns-in-Err g c = taken_ends c.args.opened.now _ c.args.found.now _ _ _ c.in-Err.refusal c.end_taken.result.status (rw c.in-Err.is at c.ask-streams.ensures.asked) c.end_taken.ensures
