use Rattle.std.proofs.Common.{◌≡◌, [], map}
use Rattle.std.specs.FinMap.{empty}
use Rattle.pull_generated.specs.Shelf.{with_each}
use Rattle.pull_generated.specs.Texts.{layer_contents, layer_type, descriptor_of}
use Rattle.pull_generated.proofs.layers.first_layers.Given as goal

abbrev pub invariant-loop-place : goal.invariant-loop-place
invariant-loop-place l = (l.layers.blobs ≡ with_each empty (layer_contents l.place)) × (l.layers.descriptors ≡ map (descriptor_of layer_type []) (layer_contents l.place))
