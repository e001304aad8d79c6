use Rattle.live_pull.proofs.CarriedCalls.{pulled}
use Rattle.live_pull.proofs.documents_parts.decide.Goals as goal

pub returns-clause-decided : goal.returns-clause-decided
returns-clause-decided g c = pulled _ _ _ _ _ _ _ _ c.decide-outcome.result c.new-transport.ensures.told c.new-transport.ensures.faults c.decide-outcome.ensures.run c.finish-source.ensures.transcript
