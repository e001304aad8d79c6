use Rattle.live_copy.proofs.Ending.{undecided_ends}
use Rattle.live_copy.proofs.live.follow.Goals as goal

pub returns-in-Ok : goal.returns-in-Ok
returns-in-Ok g c = λ settings begun opens decided. c.follow_decision.ensures settings begun opens (rw c.in-Ok.is at decided)

pub returns-in-Err : goal.returns-in-Err
returns-in-Err g c = λ settings begun opens decided. rw c.end_with.ensures (undecided_ends settings begun _ c.in-Err.status (rw c.in-Err.is at decided))
