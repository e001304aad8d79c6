use Rattle.std.proofs.Common.{take}
use Rattle.json_tables.proofs.WrittenLists.{ItemsWritten}
use Rattle.json_tables.proofs.writes.write_items.Given as goal

abbrev pub invariant-loop-item : goal.invariant-loop-item
invariant-loop-item g l = ItemsWritten g.T.Reads.reading g.T.Writes.written g.T.Writes.normal g.T.Writes.floats l.values.items (take l.item-index l.items)
