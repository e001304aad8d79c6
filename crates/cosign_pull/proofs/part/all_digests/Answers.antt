use Rattle.std.proofs.Common.{map, ap, ◌∙◌}
use Rattle.cosign_pull.specs.Part.{layer_digests}
use Rattle.cosign_pull.proofs.LayerTexts.{all_tell}
use Rattle.cosign_pull.proofs.part.all_digests.Goals as goal

pub returns : goal.returns
returns c = all_tell c.in_ok-used.used c.in_ok-all.all c.args.layers.now c.args.descriptors.now c.in_ok-used.ensures (c.in_ok-all.ensures ∙ ap (λ used. map (layer_digests used) c.args.layers.now) c.as_slice.ensures)
