use Rattle.std.proofs.Common.{Ok}
use Rattle.live_blobs.specs.CarryEnds.{CarryCut, CarryTold}
use Rattle.live_blobs.proofs.Delivered.{host_delivers}
use Rattle.live_blobs.proofs.carry_delivery.deliver_carried.Goals as goal

pub returns-in-Err : goal.returns-in-Err
returns-in-Err g c =
    rw c.from.ensures (host_delivers (CarryTold c.args.digest.now) (CarryCut c.args.digest.now) (Ok c.args.pushed) c.in-Err.error _ _ tt c.in-Err.ensures.cause)
