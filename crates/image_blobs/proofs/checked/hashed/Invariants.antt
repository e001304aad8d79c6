use Rattle.std.proofs.Common.{◌<◌, length}
use Rattle.image_blobs.proofs.HashedBytes.{HashedSoFar}
use Rattle.image_blobs.proofs.checked.hashed.Given as goal

-- the bytes so far were read and hashed, and those that are left are as many as were not read
abbrev pub invariant-loop-count : goal.invariant-loop-count
invariant-loop-count g l = (0 < length l.room) × HashedSoFar l.size l.left l.fn.digester l.digester (g.S.Source.state l.fn.source) (g.S.Source.state l.source)

abbrev pub decreases-loop-count : goal.decreases-loop-count
decreases-loop-count g l = l.left
