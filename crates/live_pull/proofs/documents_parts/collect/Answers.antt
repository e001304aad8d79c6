use Rattle.live_pull.proofs.CarriedCalls.{pulled}
use Rattle.live_pull.proofs.documents_parts.collect.Goals as goal

pub returns-clause-collected : goal.returns-clause-collected
returns-clause-collected g c = pulled _ _ _ _ _ _ _ _ c.collect-found.result c.new-transport.ensures.told c.new-transport.ensures.faults c.collect-found.ensures.run c.finish-source.ensures.transcript
