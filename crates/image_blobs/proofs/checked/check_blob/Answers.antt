use Rattle.image_blobs.proofs.HashedBytes.{all_checked}
use Rattle.image_blobs.proofs.checked.check_blob.Goals as goal

pub returns-clause-blob : goal.returns-clause-blob
returns-clause-blob g c = all_checked _ _ _ c.is_blob.result c.is_blob.ensures.checks
