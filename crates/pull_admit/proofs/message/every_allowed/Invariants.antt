use Rattle.std.proofs.Common.{◌≡◌, drop}
use Rattle.pull_admit.specs.Responses.{all_allowed}
use Rattle.pull_admit.proofs.message.every_allowed.Given as goal

abbrev pub invariant-loop-decision : goal.invariant-loop-decision
invariant-loop-decision l = all_allowed l.decisions ≡ all_allowed (drop l.decision-index l.decisions)
