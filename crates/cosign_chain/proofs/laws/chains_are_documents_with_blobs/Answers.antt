use Rattle.cosign_chain.proofs.Images.{chains}
use Rattle.cosign_chain.proofs.laws.chains_are_documents_with_blobs.Goals as goal

pub returns : goal.returns
returns g c = λ trust image accepted promise v. chains _ image accepted promise v
