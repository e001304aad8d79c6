use Rattle.live_admit.proofs.Places.{Passed}
use Rattle.live_admit.proofs.rules.first_at.Given as goal

abbrev pub invariant-loop-at : goal.invariant-loop-at
invariant-loop-at g l = Passed l.rules l.place l.at
