use Rattle.cosign_chain.proofs.LinkTests.{linked}
use Rattle.cosign_chain.proofs.links.check_links.Goals as goal

pub returns : goal.returns
returns c = linked _ _ _ c.is_linked.result c.is_linked.ensures
