use Rattle.std.proofs.Common.{take}
use Rattle.cosign_client.specs.Signature.{AreLayersFor, all_signed}
use Rattle.cosign_client.proofs.signature.payload_layers.Given as goal

abbrev pub invariant-loop-layer : goal.invariant-loop-layer
invariant-loop-layer l = AreLayersFor (all_signed (take l.layer-index l.layers)) l.images
