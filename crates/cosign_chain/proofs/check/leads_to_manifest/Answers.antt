use Rattle.cosign_chain.proofs.VerifiedDocumentTests.{leads_decide}
use Rattle.cosign_chain.proofs.check.leads_to_manifest.Goals as goal

pub returns : goal.returns
returns c = leads_decide _ _ _ c.leads.ensures
