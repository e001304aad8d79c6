use Rattle.std.proofs.Common.{Err, sym}
use Rattle.live_pull.proofs.EarlyEnds.{host_delivers}
use Rattle.live_pull.proofs.live.deliver_refusal.Goals as goal

pub returns-in-Err : goal.returns-in-Err
returns-in-Err g c = λ blobs. rw c.from.ensures (host_delivers blobs (Err c.args.refusal.now) c.in-Err.error _ _ (sym c.if-is_memory.ensures) c.in-Err.ensures.cause)
