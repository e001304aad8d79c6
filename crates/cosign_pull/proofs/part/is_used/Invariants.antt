use Rattle.std.proofs.Common.{ℕ, ◌<◌, get_or}
use Rattle.oci_digests.specs.Names.{prefix_of}
use Rattle.cosign_pull.specs.Part.{BeginsOtherwise}
use Rattle.cosign_pull.proofs.part.is_used.Given as goal

-- none so far
abbrev pub invariant-loop-descriptor : goal.invariant-loop-descriptor
invariant-loop-descriptor l = (k : ℕ) (d : _) → k < l.descriptor-index → BeginsOtherwise (prefix_of l.algorithm) (get_or l.descriptors k d).digest
