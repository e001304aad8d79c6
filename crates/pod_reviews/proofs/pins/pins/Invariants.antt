use Rattle.std.proofs.Common.{◌≡◌, ◌++◌, length}
use Rattle.pod_reviews.specs.Pins.{EachPins, pins as all_pins}
use Rattle.pod_reviews.proofs.pins.pins.Given as goal

-- the pins so far, and those of what is left
abbrev pub invariant-loop-image : goal.invariant-loop-image
invariant-loop-image l =
    (l.list ++ all_pins l.named l.rest ≡ all_pins l.images l.verdicts) × (EachPins l.named l.rest → EachPins l.images l.verdicts)

abbrev pub decreases-loop-image : goal.decreases-loop-image
decreases-loop-image l = length l.rest
