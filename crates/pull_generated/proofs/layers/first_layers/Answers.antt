use Rattle.pull_generated.proofs.OneLayerMore.{blobs_grow, descriptors_grow}
use Rattle.pull_generated.proofs.layers.first_layers.Goals as goal

pub loop-place-preserved : goal.loop-place-preserved
loop-place-preserved c = (blobs_grow _ _ _ c.loop-place.invariant.0 c.in_ok-add_layer.ensures.blobs, descriptors_grow _ _ _ c.loop-place.invariant.1 c.in_ok-add_layer.ensures.descriptors)
