use Rattle.std.proofs.Common.{◌≡◌, ◌++◌, drop, map}
use Rattle.oci_digests.specs.Names.{digest_text}
use Rattle.cosign_pull.proofs.part.layer_digests.Given as goal

-- the rest is appended to what is present
abbrev pub invariant-loop-algorithm : goal.invariant-loop-algorithm
invariant-loop-algorithm l = l.own ++ map (λ a. digest_text a l.layer.content) (drop l.algorithm-index l.used) ≡ map (λ a. digest_text a l.layer.content) l.used
