use Rattle.std.proofs.Common.{◌≡◌, ◌++◌, drop}
use Rattle.locked_cases.specs.Built.{layers_of}
use Rattle.locked_cases.proofs.built.layers_of.Given as goal

abbrev pub invariant-loop-descriptor : goal.invariant-loop-descriptor
invariant-loop-descriptor l =
    (goal.iterator-loop-descriptor).can_next l.others × (goal.iterator-loop-descriptor).is_finite l.others
    × (layers_of l.descriptors l.contents ≡ l.layers ++ layers_of (drop l.descriptor-index l.descriptors) l.others.rest.now)
