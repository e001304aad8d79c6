use Rattle.std.proofs.Common.{◌-◌}
use Rattle.call_laws.specs.Blobs.{descriptors_of}
use Rattle.live_blobs.proofs.Listed.{Listed}
use Rattle.live_blobs.proofs.delivery.digests.Given as goal

-- the digests so far
abbrev pub invariant-loop-at : goal.invariant-loop-at
invariant-loop-at l = Listed (descriptors_of l.manifest) l.range.first l.range.end l.at l.list

abbrev pub decreases-loop-at : goal.decreases-loop-at
decreases-loop-at l = l.range.end - l.at
