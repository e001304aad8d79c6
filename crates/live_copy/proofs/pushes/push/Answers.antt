use Rattle.live_copy.proofs.Calls.{pushed}
use Rattle.live_copy.proofs.pushes.push.Goals as goal

pub returns : goal.returns
returns g c = pushed _ _ _ _ _ c.new-transport.ensures.told c.new-transport.ensures.faults c.finish-source.ensures.transcript _ _ _ _ _ _ _ c.push_documents-outcome.ensures.confined c.push_documents-outcome.result _ c.push_documents-outcome.ensures.run c.push_documents-outcome.ensures.pushed c.push_documents-outcome.ensures.stopped
