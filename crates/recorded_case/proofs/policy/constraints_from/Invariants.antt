use Rattle.std.proofs.Common.{◌≡◌, take}
use Rattle.recorded_case.specs.Policy.{constraints_by}
use Rattle.recorded_case.proofs.policy.constraints_from.Given as goal

abbrev pub invariant-loop-constraint : goal.invariant-loop-constraint
invariant-loop-constraint g l = l.constraints ≡ constraints_by (take l.constraint-index l.written)
