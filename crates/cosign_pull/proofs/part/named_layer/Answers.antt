use Rattle.std.proofs.Common.{length, refl, sym, ◌∙◌}
use Rattle.std.proofs.lemmas.Option.{slice_get_read}
use Rattle.cosign_pull.proofs.LayerTexts.{named_there}
use Rattle.cosign_pull.proofs.part.named_layer.Goals as goal

pub returns : goal.returns
returns c =
    let place = sym c.place_among.ensures ∙ c.in-Some.is in
    let there = slice_get_read c.args.layers.now (length c.args.layers.now) c.in-Some.place c.in-Some-get.layer.now refl c.in-Some-get.ensures.lookup.3.0 c.in-Some-get.ensures.lookup.1 in
    sym (named_there c.args.digest.now c.args.digests.now c.args.layers.now c.in-Some.place c.requires place ∙ there)
