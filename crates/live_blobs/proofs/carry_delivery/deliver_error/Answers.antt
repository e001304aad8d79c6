use Rattle.std.proofs.Common.{Err, sym}
use Rattle.live_blobs.specs.CarryEnds.{CarryCut, CarryTold}
use Rattle.live_blobs.proofs.Delivered.{host_delivers}
use Rattle.live_blobs.proofs.carry_delivery.deliver_error.Goals as goal

pub returns-in-Err : goal.returns-in-Err
returns-in-Err g c =
    rw c.from.ensures (host_delivers (CarryTold c.args.digest.now) (CarryCut c.args.digest.now) (Err c.args.error.now) c.in-Err.error _ _ (sym c.if-is_memory.ensures) c.in-Err.ensures.cause)
