use Rattle.live_pull.proofs.CarriedCalls.{found}
use Rattle.live_pull.proofs.pulls.search.Goals as goal

pub returns-clause-found : goal.returns-clause-found
returns-clause-found g c = found _ _ _ _ _ _ _ _ c.trusted_signature_layers-answer.result c.collected-layers.result c.new-transport.ensures.told c.new-transport.ensures.faults c.trusted_signature_layers-answer.ensures.run c.finish-source.ensures.transcript c.collected-layers.ensures.layers c.collected-layers.ensures.whole
