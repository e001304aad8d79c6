use Rattle.cosign_client.proofs.SignaturesFound.{signatures_found}
use Rattle.cosign_client.proofs.signature.pushed_signatures_are_found.Goals as goal

pub returns : goal.returns
returns c = signatures_found
