use Rattle.std.proofs.Common.{◌-◌}
use Rattle.call_laws.specs.Blobs.{descriptors_of}
use Rattle.live_host.specs.Wire.{wire}
use Rattle.live_check.proofs.InTurn.{SoFar}
use Rattle.live_check.proofs.blobs.first_fallen.Given as goal

-- the blobs so far stand, and those of the range that are left follow
abbrev pub invariant-loop-at : goal.invariant-loop-at
invariant-loop-at g l = SoFar (descriptors_of l.manifest) l.range.first l.range.end l.at (wire g.S.Source.state g.K.Sink.state l.fn.streams) (wire g.S.Source.state g.K.Sink.state l.streams)

abbrev pub decreases-loop-at : goal.decreases-loop-at
decreases-loop-at g l = l.range.end - l.at
