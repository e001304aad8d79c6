use Rattle.image_blobs.proofs.HashedBytes.{never_blob}
use Rattle.image_blobs.proofs.checked.is_blob.Goals as goal

pub returns-in_default-clause-checks : goal.returns-in_default-clause-checks
returns-in_default-clause-checks g c = never_blob _ _ (λ bytes b. (rw c.in_default.is at c.in_ok-digester.ensures) bytes (rw c.as_str.ensures b.1))
