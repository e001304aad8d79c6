use Rattle.std.proofs.Common.{sym, ◌∙◌}
use Rattle.live_copy.specs.Course.{OfTags}
use Rattle.live_copy.proofs.Ending.{refusal_ends}
use Rattle.live_copy.proofs.delivery.deliver_taken.Goals as goal

pub returns : goal.returns
returns g c = refusal_ends (OfTags c.args.refusal.now) c.send_refusal.result _ _ (sym c.tags_ran_out.ensures ∙ c.if-tags_ran_out.false) c.send_refusal.ensures
