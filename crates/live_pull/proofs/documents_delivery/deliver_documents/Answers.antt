use Rattle.std.proofs.Common.{Ok}
use Rattle.live_pull.proofs.EarlyEnds.{host_gives}
use Rattle.live_pull.specs.Course.{DocumentsCut, DocumentsTold}
use Rattle.live_pull.proofs.documents_delivery.deliver_documents.Goals as goal

pub returns-in-Err : goal.returns-in-Err
returns-in-Err g c = rw c.from.ensures (host_gives DocumentsTold DocumentsCut (Ok c.args.documents.now) c.in-Err.error _ _ tt c.in-Err.ensures.cause)
