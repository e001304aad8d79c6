use Rattle.std.proofs.Common.{◌≡◌, map, take}
use Rattle.push_rows.specs.Images.{digest_of_layer}
use Rattle.engine_push.proofs.images.layer_digests.Given as goal

abbrev pub invariant-loop-layer : goal.invariant-loop-layer
invariant-loop-layer l = l.digests ≡ map digest_of_layer (take l.layer-index l.layers)
