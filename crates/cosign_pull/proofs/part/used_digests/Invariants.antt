use Rattle.std.proofs.Common.{◌≡◌, ◌++◌, drop, map}
use Rattle.cosign_pull.specs.Part.{layer_digests}
use Rattle.cosign_pull.proofs.part.used_digests.Given as goal

-- the rest is appended to what is present
abbrev pub invariant-loop-place : goal.invariant-loop-place
invariant-loop-place l = l.all ++ map (layer_digests l.used) (drop l.place l.layers) ≡ map (layer_digests l.used) l.layers
