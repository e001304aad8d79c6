use Rattle.std.proofs.Common.{ℕ, ◌<◌, get_or}
use Rattle.oci_names.specs.Algorithms.{all}
use Rattle.cosign_pull.specs.Part.{ServesAll}
use Rattle.cosign_pull.proofs.part.used_algorithms.Given as goal

-- each so far is used, or no digest begins with it
abbrev pub invariant-loop-algorithm : goal.invariant-loop-algorithm
invariant-loop-algorithm l = (k : ℕ) (a : _) → k < l.algorithm-index → ServesAll l.used (get_or all k a) l.descriptors
