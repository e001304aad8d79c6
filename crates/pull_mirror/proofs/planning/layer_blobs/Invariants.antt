use Rattle.std.proofs.Common.{length}
use Rattle.pull_mirror.proofs.Planned.{LayersSoFar}
use Rattle.pull_mirror.proofs.planning.layer_blobs.Given as goal

-- the layers before those that are left were planned
abbrev pub invariant-loop-entry : goal.invariant-loop-entry
invariant-loop-entry l = LayersSoFar l.fn.entries l.fn.layers l.named l.left l.blobs

abbrev pub decreases-loop-entry : goal.decreases-loop-entry
decreases-loop-entry l = length l.left
