use Rattle.std.proofs.Common.{◌≡◌, ◌++◌, length}
use Rattle.pod_reviews.specs.Verdicts.{denials as all_denials}
use Rattle.pod_reviews.proofs.message.denials.Given as goal

-- the texts so far, and those of what is left
abbrev pub invariant-loop-image : goal.invariant-loop-image
invariant-loop-image l = l.texts ++ all_denials l.named l.rest ≡ all_denials l.images l.verdicts

abbrev pub decreases-loop-image : goal.decreases-loop-image
decreases-loop-image l = length l.rest
