use Rattle.cosign_chain.proofs.VerifiedDocumentTests.{are_named}
use Rattle.cosign_chain.proofs.check.are_named.Goals as goal

pub returns : goal.returns
returns c = are_named c.args.image.now c.args.found.now c.is_named.result c.is_named.ensures
