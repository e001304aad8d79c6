use Rattle.cosign_pull.proofs.LayerTexts.{tells_at}
use Rattle.cosign_pull.proofs.part.descriptors_part.Goals as goal

pub named_layer-named-requires : goal.named_layer-named-requires
named_layer-named-requires g c = rw (c.as_slice.ensures, c.as_str.ensures) (tells_at c.in_ok-digests.digests c.args.layers.now c.args.descriptors.now c.loop-descriptor.descriptor-index c.descriptor-item.result c.in_ok-digests.ensures c.loop-descriptor-test.true c.descriptor-item.is)
