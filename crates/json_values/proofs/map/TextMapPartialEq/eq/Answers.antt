use Rattle.json_values.proofs.Equalities.{maps_decided, compared}
use Rattle.json_values.proofs.map.TextMapPartialEq.eq.Goals as goal

pub returns-clause-same : goal.returns-clause-same
returns-clause-same g c h = maps_decided h _ _ _ (compared g.V.PartialEq.eq c.eq.result c.args.self.now c.args.other.now c.entries.result.now c.entries-2.result.now c.eq.ensures c.entries.ensures c.entries-2.ensures)
