use Rattle.std.proofs.Common.{◌≡◌, take}
use Rattle.registry_cache.specs.Weights.{counted, list_weight}
use Rattle.registry_cache.proofs.weights.items_weight.Given as goal

abbrev pub invariant-loop-item : goal.invariant-loop-item
invariant-loop-item g l = l.weight ≡ counted (list_weight g.T.Weighs.weight (take l.item-index l.items))
