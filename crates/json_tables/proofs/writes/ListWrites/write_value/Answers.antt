use Rattle.std.proofs.Common.{All, subst}
use Rattle.json_tables.proofs.WrittenLists.{Each, list_again}
use Rattle.json_tables.proofs.writes.ListWrites.write_value.Goals as goal

pub returns-clause-again : goal.returns-clause-again
returns-clause-again g c =
    list_again _ _ _ _ c.args.self.now
    (subst (All (Each g.T.Reads.reading g.T.Writes.written g.T.Writes.normal g.T.Writes.floats)) c.as_slice.ensures c.in_ok-write_items.ensures.again)
