use Rattle.std.proofs.Common.{Ok}
use Rattle.live_pull.proofs.EarlyEnds.{host_delivers}
use Rattle.live_pull.proofs.live.deliver_image.Goals as goal

pub returns-in-Err : goal.returns-in-Err
returns-in-Err g c = rw c.from.ensures (host_delivers c.args.blobs (Ok c.args.image.now) c.in-Err.error _ _ tt c.in-Err.ensures.cause)
