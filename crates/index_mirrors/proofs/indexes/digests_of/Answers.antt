use Rattle.std.proofs.Common.{take_all}
use Rattle.index_mirrors.proofs.IndexEntries.{listed_more}
use Rattle.index_mirrors.proofs.indexes.digests_of.Goals as goal

pub loop-entry-preserved : goal.loop-entry-preserved
loop-entry-preserved c = listed_more c.args.entries.now c.loop-entry.entry-index c.entry-item.result c.loop-entry-test.true c.entry-item.is c.loop-entry.invariant c.in_ok-push.ensures.ok c.in_ok-digest.ensures

pub returns : goal.returns
returns c = rw (take_all _ _ c.loop-entry-test.false) at c.loop-entry.invariant
