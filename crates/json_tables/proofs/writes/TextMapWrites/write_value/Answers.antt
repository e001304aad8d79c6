use Rattle.json_tables.proofs.Entries.{map_again}
use Rattle.json_tables.proofs.writes.TextMapWrites.write_value.Goals as goal

pub returns-clause-again : goal.returns-clause-again
returns-clause-again g c = map_again _ _ g.met.V.Lasting.reads_back g.met.V.Lasting.plain c.args.self.now
