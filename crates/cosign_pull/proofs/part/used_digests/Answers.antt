use Rattle.cosign_pull.proofs.LayerTexts.{own_inside, own_names}
use Rattle.cosign_pull.proofs.part.used_digests.Goals as goal

pub bounds-own-place : goal.bounds-own-place
bounds-own-place c = own_inside c.args.own.now c.args.layers.now c.loop-place.place c.requires c.loop-place-test.true

pub layer_digests-requires : goal.layer_digests-requires
layer_digests-requires c = rw c.as_str-digest.ensures (own_names c.args.own.now c.args.layers.now c.loop-place.place c.index-own-place.result c.index-layers-place.result c.requires c.loop-place-test.true c.index-layers-place.is)
