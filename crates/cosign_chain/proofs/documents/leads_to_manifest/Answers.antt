use Rattle.cosign_chain.proofs.DocumentTests.{led}
use Rattle.cosign_chain.proofs.documents.leads_to_manifest.Goals as goal

pub returns : goal.returns
returns c = led _ _ _ c.leads.ensures
