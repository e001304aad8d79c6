use Rattle.std.proofs.Common.{sym, ◌∙◌}
use Rattle.live_copy.specs.Course.{OfDocuments}
use Rattle.live_copy.proofs.Ending.{refusal_ends}
use Rattle.live_copy.proofs.delivery.deliver_refusal.Goals as goal

pub returns : goal.returns
returns g c = refusal_ends (OfDocuments c.args.refusal.now) c.send_refusal.result _ _ (sym c.ran_out.ensures ∙ c.if-ran_out.false) c.send_refusal.ensures
