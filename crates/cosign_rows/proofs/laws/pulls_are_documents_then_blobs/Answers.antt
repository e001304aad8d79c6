use Rattle.cosign_rows.proofs.Blobs.{pull_is}
use Rattle.cosign_rows.proofs.laws.pulls_are_documents_then_blobs.Goals as goal

pub returns : goal.returns
returns g c = λ trust s image a accepted. pull_is _ s image a accepted
