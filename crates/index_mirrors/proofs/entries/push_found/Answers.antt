use Rattle.std.proofs.Common.{sym}
use Rattle.index_mirrors.specs.Courses.{target_of}
use Rattle.index_mirrors.proofs.OneImage.{entry_sent, entry_unsent, other_found}
use Rattle.index_mirrors.proofs.entries.push_found.Goals as goal

pub returns-then-not-is_image_of-clause-pushed : goal.returns-then-not-is_image_of-clause-pushed
returns-then-not-is_image_of-clause-pushed g c = other_found (target_of c.args.client.now c.args.moment c.args.to.now) c.args.entry c.args.found.now _ _ (sym c.if-not-is_image_of.ensures)

pub returns-in-Ok-clause-pushed : goal.returns-in-Ok-clause-pushed
returns-in-Ok-clause-pushed g c = entry_sent (target_of c.args.client.now c.args.moment c.args.to.now) c.args.entry c.args.found.now (sym c.if-not-is_image_of.ensures) c.in-Ok.ensures.run c.in-Ok.ensures.confined

pub returns-in-Err-clause-pushed : goal.returns-in-Err-clause-pushed
returns-in-Err-clause-pushed g c =
    entry_unsent (target_of c.args.client.now c.args.moment c.args.to.now) c.args.entry c.args.found.now c.in-Err.refusal _ c.push_refusal.ensures (sym c.if-not-is_image_of.ensures) c.in-Err.ensures.run c.in-Err.ensures.stopped c.in-Err.ensures.confined
