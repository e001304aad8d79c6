use Rattle.std.proofs.Common.{Ok}
use Rattle.live_copy.proofs.Ending.{not_sent}
use Rattle.live_copy.proofs.delivery.deliver_report.Goals as goal

pub returns-in-Err : goal.returns-in-Err
returns-in-Err g c = rw c.from.ensures (not_sent (Ok c.args.report.now) c.in-Err.error _ _ tt c.in-Err.ensures.cause)
