use Rattle.std.proofs.Common.{◌≡◌, ap, ◌∙◌}
use Rattle.pull_generated.specs.Shelf.{payload_of}
use Rattle.pull_generated.specs.Texts.{sha256_text, plain_manifest, image_text, payload_text, signatures_text}
use Rattle.pull_generated.proofs.Made.{image_is, shelf_is, two_are}
use Rattle.pull_generated.proofs.shelf.generated_shelf.Goals as goal

pub returns-clause-exact : goal.returns-clause-exact
returns-clause-exact c =
    let image = c.in_ok-image.ensures ∙ ap plain_manifest (c.as_slice.ensures ∙ cc (c.in_ok-blobs.descriptors-is, c.in_ok-blobs.ensures.descriptors)) ∙ image_is c.args.layers in
    let payload = c.in_ok-payload.ensures ∙ ap payload_text (c.as_str-2.ensures ∙ c.in_ok-digest.ensures ∙ ap sha256_text (c.as_bytes.ensures.value ∙ c.as_str.ensures ∙ image)) in
    let signatures = c.in_ok-signatures.ensures ∙ ap signatures_text (c.as_str-3.ensures ∙ payload) in
    shelf_is c.args.layers c.shelf_with.result _ _ _ _ image payload signatures (cc (c.in_ok-blobs.blobs-is, c.in_ok-blobs.ensures.blobs)) c.shelf_with.ensures.exact

pub returns-clause-apart : goal.returns-clause-apart
returns-clause-apart c =
    let image = c.in_ok-image.ensures ∙ ap plain_manifest (c.as_slice.ensures ∙ cc (c.in_ok-blobs.descriptors-is, c.in_ok-blobs.ensures.descriptors)) ∙ image_is c.args.layers in
    let payload = c.in_ok-payload.ensures ∙ ap payload_text (c.as_str-2.ensures ∙ c.in_ok-digest.ensures ∙ ap sha256_text (c.as_bytes.ensures.value ∙ c.as_str.ensures ∙ image)) in
    let signatures = c.in_ok-signatures.ensures ∙ ap signatures_text (c.as_str-3.ensures ∙ payload) in
    two_are c.args.layers c.shelf_with.result _ _ image signatures c.shelf_with.ensures.apart
