use Rattle.std.proofs.Common.{◌≡◌, map, take}
use Rattle.locked_cases.specs.Input.{whole_of}
use Rattle.locked_cases.proofs.input.wholes_of.Given as goal

abbrev pub invariant-loop-case : goal.invariant-loop-case
invariant-loop-case l = l.texts ≡ map whole_of (take l.case-index l.cases)
