use Rattle.std.proofs.Common.{◌≡◌, ap, ◌∙◌}
use Rattle.pull_generated.specs.Texts.{sha256_text, plain_manifest, payload_text}
use Rattle.pull_generated.proofs.Made.{image_is, digest_is}
use Rattle.pull_generated.proofs.shelf.payload_digest.Goals as goal

pub returns : goal.returns
returns c =
    let image = c.in_ok-image.ensures ∙ ap plain_manifest (c.as_slice.ensures ∙ cc (c.in_ok-descriptors.descriptors-is, c.in_ok-descriptors.ensures.descriptors)) ∙ image_is c.args.layers in
    let payload = c.in_ok-payload.ensures ∙ ap payload_text (c.as_str-2.ensures ∙ c.in_ok-digest.ensures ∙ ap sha256_text (c.as_bytes.ensures.value ∙ c.as_str.ensures ∙ image)) in
    digest_is c.args.layers c.sha256_digest-2.result _ (c.as_bytes-2.ensures.value ∙ c.as_str-3.ensures ∙ payload) c.sha256_digest-2.ensures
