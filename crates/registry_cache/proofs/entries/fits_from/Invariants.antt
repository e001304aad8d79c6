use Rattle.std.proofs.Common.{◌≡◌, ◌≤◌, length, drop, true, Some, ℕ}
use Rattle.registry_cache.specs.Answers.{fits}
use Rattle.registry_cache.specs.Weights.{counted, weight}
use Rattle.registry_cache.proofs.entries.fits_from.Given as goal

abbrev pub invariant-loop-start : goal.invariant-loop-start
invariant-loop-start l =
    (l.start ≤ length l.entries) × (l.weight ≡ counted (weight (drop l.start l.entries)))
    × (fits (Some l.bounds) (drop l.start l.entries) ≡ true)

abbrev pub decreases-loop-start : goal.decreases-loop-start
decreases-loop-start l = l.start
