use Rattle.std.proofs.Common.{◌-◌}
use Rattle.call_laws.specs.Blobs.{descriptors_of}
use Rattle.image_blobs.proofs.EachInTurn.{SoFar}
use Rattle.image_blobs.proofs.pulls.each_blob.Given as goal

-- the blobs so far were pulled, and those of the range that are left follow
abbrev pub invariant-loop-at : goal.invariant-loop-at
invariant-loop-at g l = SoFar l.call.settings.now l.call.image.now l.access.registry.now l.access.token.now g.S.Sinks.fresh (descriptors_of l.manifest) l.range.first l.range.end l.at (g.T.Transport.state l.fn.transport) (g.T.Transport.state l.transport) (g.S.Sinks.state l.fn.sinks) (g.S.Sinks.state l.sinks)

abbrev pub decreases-loop-at : goal.decreases-loop-at
decreases-loop-at g l = l.range.end - l.at
