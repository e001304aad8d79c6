use Rattle.std.proofs.Common.{◌≡◌, map, take}
use Rattle.oci_manifests.specs.Build.{layer_descriptor}
use Rattle.oci_manifests.proofs.build.layer_descriptors.Given as goal

abbrev pub invariant-loop-layer : goal.invariant-loop-layer
invariant-loop-layer l = l.descriptors ≡ map layer_descriptor (take l.layer-index l.layers)
