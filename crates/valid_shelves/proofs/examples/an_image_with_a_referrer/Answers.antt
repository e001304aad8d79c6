use Rattle.std.proofs.Common.{◌≡◌, ℕ, List, codes, length, None, refl, sym, ap, ◌∙◌, arith}
use Rattle.std.specs.Prelude.{slice_index}
use Rattle.oci_names.specs.declared.algorithm.Algorithm.TheVariants.{Sha256}
use Rattle.oci_manifests.specs.declared.document.OciManifest.TheVariants.{Image}
use Rattle.cosign_laws.specs.Small.{sha256}
use Rattle.base64.specs.Rfc4648.{encode_symbols}
use Rattle.valid_shelves.specs.Texts as text
use Rattle.valid_shelves.proofs.Facts.{digest_of_image, digest_to_image, parts_of_image, image_pack, to_image_pack, to_image_listed, to_image_plain, to_image_shows}
use Rattle.valid_shelves.proofs.Packs.{manifest_read}
use Rattle.valid_shelves.proofs.Signed.{by_referrer}
use Rattle.valid_shelves.proofs.examples.an_image_with_a_referrer.Goals as goal

bundle_long : length text.to_image.bundle ≡ 480
unfolding encode_symbols
bundle_long = refl

bundles_once : (sha256 text.to_image.manifest ≡ sha256 text.image) → text.image ≡ text.to_image.manifest
bundles_once same =
    let differ : 48 ≡ 53 = ap (λ (t : List ℕ). slice_index t 7) (sym digest_to_image ∙ same ∙ digest_of_image) in
    absurd (omega (arith, differ))

both_once : (sha256 text.to_image.manifest ≡ sha256 text.image) → text.image ≡ text.to_image.manifest
both_once same =
    let differ : 48 ≡ 53 = ap (λ (t : List ℕ). slice_index t 7) (sym digest_to_image ∙ same ∙ digest_of_image) in
    absurd (omega (arith, differ))

pub returns : goal.returns
returns c =
    let first_length : length text.image ≡ 393 = refl in
    let manifest_length : length text.to_image.manifest ≡ 401 = refl in
    let list_length : length text.to_image.list ≡ 240 = refl in
    let bundle_length : length text.to_image.bundle ≡ 480 = bundle_long in
    by_referrer None Sha256 text.image text.to_image (codes "sha256") (codes "517b86da29754bfa57e312c35d4cf22caa38dbce39ecd24684830c1f9777a635") parts_of_image (Image (manifest_read text.image)) image_pack.0 refl to_image_pack
    (to_image_listed.0, to_image_listed.1, to_image_listed.2 ∙ sym digest_to_image) to_image_plain to_image_shows (λ same. refl) bundles_once both_once
    (omega (arith, first_length)) (omega (arith, manifest_length)) (omega (arith, list_length)) (omega (arith, bundle_length))
