use Rattle.std.proofs.Common.{Some, length, refl, sym, ap, ◌∙◌}
use Rattle.std.proofs.lemmas.Option.{slice_get_read}
use Rattle.cosign_rows.proofs.First.{first_at}
use Rattle.cosign_pull.proofs.decision.first_signature.Goals as goal

pub returns-in_ok-copy-in-Some-get : goal.returns-in_ok-copy-in-Some-get
returns-in_ok-copy-in-Some-get g c =
    let place = sym c.in_ok-place.ensures ∙ c.in-Some.is in
    let there = slice_get_read c.args.layers.now (length c.args.layers.now) c.in-Some.place c.in-Some-get.layer.now refl c.in-Some-get.ensures.lookup.3.0 c.in-Some-get.ensures.lookup.1 in
    ap Some c.in_ok-copy-in-Some-get.ensures ∙ sym there ∙ sym (first_at _ _ _ place)
