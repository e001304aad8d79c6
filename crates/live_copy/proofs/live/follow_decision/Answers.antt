use Rattle.live_copy.proofs.Ending.{copied_ends, refused_ends}
use Rattle.live_copy.proofs.live.follow_decision.Goals as goal

pub returns-in-Ok : goal.returns-in-Ok
returns-in-Ok g c = λ settings begun opens decided. copied_ends settings c.args.opened.now c.in-Ok.documents begun _ _ opens (rw c.in-Ok.is at decided) c.copy_decided.result.status c.copy_decided.ensures

pub returns-in-Err : goal.returns-in-Err
returns-in-Err g c = λ settings begun opens decided. refused_ends settings c.in-Err.refusal begun _ _ c.end_refused.result.status (rw c.in-Err.is at decided) c.end_refused.ensures
