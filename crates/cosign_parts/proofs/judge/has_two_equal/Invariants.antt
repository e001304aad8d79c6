use Rattle.std.proofs.Common.{◌≡◌, length}
use Rattle.cosign_parts.specs.Judge.{has_two_equal}
use Rattle.cosign_parts.proofs.judge.has_two_equal.Given as goal

-- none among the rows so far, so the others decide
abbrev pub invariant-loop-row : goal.invariant-loop-row
invariant-loop-row l = has_two_equal l.rest ≡ has_two_equal l.rows

abbrev pub decreases-loop-row : goal.decreases-loop-row
decreases-loop-row l = length l.rest
