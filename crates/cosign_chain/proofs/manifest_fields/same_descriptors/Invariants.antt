use Rattle.std.proofs.Common.{◌≡◌, drop}
use Rattle.std.specs.Cmp.Lexicographic.{pointwise}
use Rattle.cosign_chain.specs.SameManifest.{same_descriptor}
use Rattle.cosign_chain.proofs.manifest_fields.same_descriptors.Given as goal

abbrev pub invariant-loop-descriptor : goal.invariant-loop-descriptor
invariant-loop-descriptor l =
    (goal.iterator-loop-descriptor).can_next l.others × (goal.iterator-loop-descriptor).is_finite l.others
    × (pointwise same_descriptor l.a l.b ≡ pointwise same_descriptor (drop l.descriptor-index l.a) l.others.rest.now)
