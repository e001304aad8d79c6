use Rattle.std.proofs.Common.{◌≤◌, ◌-◌}
use Rattle.live_host.specs.Wire.{wire}
use Rattle.live_admit.proofs.Reviews.{SoMany}
use Rattle.live_admit.proofs.serve.serve_each.Given as goal

abbrev pub invariant-loop-served : goal.invariant-loop-served
invariant-loop-served g l =
    (l.served ≤ l.reviews) × SoMany l.fn.rules.items l.rules.items l.served (wire g.S.Source.state g.K.Sink.state l.fn.streams) (wire g.S.Source.state g.K.Sink.state l.streams)

abbrev pub decreases-loop-served : goal.decreases-loop-served
decreases-loop-served g l = l.reviews - l.served
