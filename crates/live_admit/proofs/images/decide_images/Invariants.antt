use Rattle.std.proofs.Common.{◌≡◌, ◌+◌, length}
use Rattle.live_host.specs.Wire.{wire}
use Rattle.live_admit.proofs.Decisions.{SoFar}
use Rattle.live_admit.proofs.images.decide_images.Given as goal

abbrev pub invariant-loop-image : goal.invariant-loop-image
invariant-loop-image g l =
    SoFar l.fn.rules.items l.rules.items l.moment l.images l.rest l.verdicts (wire g.S.Source.state g.K.Sink.state l.fn.streams) (wire g.S.Source.state g.K.Sink.state l.streams)
    × (length l.verdicts + length l.rest ≡ length l.images)

abbrev pub decreases-loop-image : goal.decreases-loop-image
decreases-loop-image g l = length l.rest
