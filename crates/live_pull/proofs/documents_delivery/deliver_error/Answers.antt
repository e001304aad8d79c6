use Rattle.std.proofs.Common.{false}
use Rattle.live_pull.proofs.Ending.{refusal_delivers}
use Rattle.live_pull.proofs.documents_delivery.deliver_error.Goals as goal

pub returns : goal.returns
returns g c = refusal_delivers c.args.refusal.now c.deliver_refusal.result _ _ (c.deliver_refusal.ensures false)
