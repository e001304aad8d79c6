use Rattle.std.proofs.Common.{◌≡◌, ℕ, List, codes, length, Some, Ok, refl, sym, ap, ◌∙◌, arith}
use Rattle.std.specs.Prelude.{slice_index}
use Rattle.oci_names.specs.declared.algorithm.Algorithm.TheVariants.{Sha256}
use Rattle.oci_manifests.specs.declared.document.OciManifest.TheVariants.{ImageIndex}
use Rattle.cosign_laws.specs.Small.{sha256}
use Rattle.base64.specs.Rfc4648.{encode_symbols}
use Rattle.engine_answers.specs.Documents.{document_read}
use Rattle.valid_shelves.specs.Examples.{linux_amd64}
use Rattle.valid_shelves.specs.Texts as text
use Rattle.valid_shelves.proofs.Facts.{digest_of_image, digest_of_index, digest_to_index, parts_of_index, index_reads, index_selects, to_index_pack, to_index_listed, to_index_plain, to_index_shows}
use Rattle.valid_shelves.proofs.Packs.{index_in}
use Rattle.valid_shelves.proofs.Signed.{by_referrer}
use Rattle.valid_shelves.proofs.examples.an_index_with_a_referrer.Goals as goal

bundle_long : length text.to_index.bundle ≡ 480
unfolding encode_symbols
bundle_long = refl

image_once : (sha256 text.image ≡ sha256 text.index) → text.index ≡ text.image
image_once same =
    let differ : 53 ≡ 50 = ap (λ (t : List ℕ). slice_index t 7) (sym digest_of_image ∙ same ∙ digest_of_index) in
    absurd (omega (arith, differ))

bundles_once : (sha256 text.to_index.manifest ≡ sha256 text.index) → text.index ≡ text.to_index.manifest
bundles_once same =
    let differ : 56 ≡ 50 = ap (λ (t : List ℕ). slice_index t 7) (sym digest_to_index ∙ same ∙ digest_of_index) in
    absurd (omega (arith, differ))

both_once : (sha256 text.to_index.manifest ≡ sha256 text.image) → text.image ≡ text.to_index.manifest
both_once same =
    let differ : 56 ≡ 53 = ap (λ (t : List ℕ). slice_index t 7) (sym digest_to_index ∙ same ∙ digest_of_image) in
    absurd (omega (arith, differ))

pub returns : goal.returns
returns c =
    let first_length : length text.index ≡ 289 = refl in
    let manifest_length : length text.to_index.manifest ≡ 401 = refl in
    let list_length : length text.to_index.list ≡ 240 = refl in
    let bundle_length : length text.to_index.bundle ≡ 480 = bundle_long in
    by_referrer (Some linux_amd64) Sha256 text.index text.to_index (codes "sha256") (codes "28f616d938d849005e1dca8332490d44c59f0908c81ac142e27c24b72d4501bb") parts_of_index (ImageIndex (index_in (document_read text.index))) index_reads (index_selects ∙ ap Ok (sym digest_of_image)) to_index_pack
    (to_index_listed.0, to_index_listed.1, to_index_listed.2 ∙ sym digest_to_index) to_index_plain to_index_shows image_once bundles_once both_once
    (omega (arith, first_length)) (omega (arith, manifest_length)) (omega (arith, list_length)) (omega (arith, bundle_length))
