use Rattle.std.proofs.Common.{◌≡◌, drop}
use Rattle.live_admit.specs.Rules.{first_for}
use Rattle.live_admit.proofs.rules.first_for.Given as goal

abbrev pub invariant-loop-rule : goal.invariant-loop-rule
invariant-loop-rule g l = first_for l.rules l.place ≡ first_for (drop l.rule-index l.rules) l.place
