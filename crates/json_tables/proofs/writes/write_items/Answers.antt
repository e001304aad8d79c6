use Rattle.std.proofs.Common.{sym, subst, ◌+◌, arith, take}
use Rattle.json_tables.proofs.WrittenLists.{ItemsWritten, items_written}
use Rattle.json_tables.proofs.writes.write_items.Goals as goal

pub loop-item-preserved : goal.loop-item-preserved
loop-item-preserved g c =
    let i = c.loop-item.item-index in
    subst (λ vs. ItemsWritten g.T.Reads.reading g.T.Writes.written g.T.Writes.normal g.T.Writes.floats vs (take (i + 1) c.args.items.now)) (sym c.in_ok-push.ensures.items)
    (items_written _ _ _ _ _ _ c.args.items.now i c.item-item.result (omega arith) c.item-item.is c.loop-item.invariant c.in_ok-value.ensures.exact c.in_ok-value.ensures.again)
