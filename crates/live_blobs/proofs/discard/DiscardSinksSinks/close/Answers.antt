use Rattle.live_blobs.proofs.Counted.{count_more}
use Rattle.live_blobs.proofs.discard.DiscardSinksSinks.close.Goals as goal

pub invariant_of-self : goal.invariant_of-self
invariant_of-self c = record { counted = count_more c.args.self.now.closed.items c.and-self.result.items c.noted-entry.result c.args.stood c.args.self.now.stood c.with_one-count.result c.and-self.ensures c.args.self.now.counted c.with_one-count.ensures }
