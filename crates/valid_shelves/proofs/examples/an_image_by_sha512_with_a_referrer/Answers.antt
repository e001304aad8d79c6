use Rattle.std.proofs.Common.{◌≡◌, ℕ, List, codes, length, None, refl, sym, ap, ◌∙◌, arith}
use Rattle.std.specs.Prelude.{slice_index}
use Rattle.oci_names.specs.declared.algorithm.Algorithm.TheVariants.{Sha512}
use Rattle.oci_digests.specs.Names.{digest_text}
use Rattle.oci_manifests.specs.declared.document.OciManifest.TheVariants.{Image}
use Rattle.cosign_laws.specs.Small.{sha256}
use Rattle.base64.specs.Rfc4648.{encode_symbols}
use Rattle.valid_shelves.specs.Texts as text
use Rattle.valid_shelves.proofs.Facts.{digest_of_image, digest_of_image_by_sha512, digest_to_image_by_sha512, parts_of_image_by_sha512, image_pack, to_image_by_sha512_pack, to_image_by_sha512_listed, to_image_by_sha512_plain, to_image_by_sha512_shows}
use Rattle.valid_shelves.proofs.Packs.{manifest_read}
use Rattle.valid_shelves.proofs.Signed.{by_referrer}
use Rattle.valid_shelves.proofs.examples.an_image_by_sha512_with_a_referrer.Goals as goal

bundle_long : length text.to_image_by_sha512.bundle ≡ 568
unfolding encode_symbols
bundle_long = refl

bundles_once : (sha256 text.to_image_by_sha512.manifest ≡ digest_text Sha512 text.image) → text.image ≡ text.to_image_by_sha512.manifest
bundles_once same =
    let differ : 50 ≡ 53 = ap (λ (t : List ℕ). slice_index t 3) (sym digest_to_image_by_sha512 ∙ same ∙ digest_of_image_by_sha512) in
    absurd (omega (arith, differ))

both_once : (sha256 text.to_image_by_sha512.manifest ≡ sha256 text.image) → text.image ≡ text.to_image_by_sha512.manifest
both_once same =
    let differ : 56 ≡ 53 = ap (λ (t : List ℕ). slice_index t 7) (sym digest_to_image_by_sha512 ∙ same ∙ digest_of_image) in
    absurd (omega (arith, differ))

pub returns : goal.returns
returns c =
    let first_length : length text.image ≡ 393 = refl in
    let manifest_length : length text.to_image_by_sha512.manifest ≡ 401 = refl in
    let list_length : length text.to_image_by_sha512.list ≡ 240 = refl in
    let bundle_length : length text.to_image_by_sha512.bundle ≡ 568 = bundle_long in
    by_referrer None Sha512 text.image text.to_image_by_sha512 (codes "sha512") (codes "0c85e500299144474d92fc114e29c49af9ee9b2eef612f1ea1b6d5ff9c24a381b3db92cc8649cc39db8a7e553ee58232781c32052b234bc2289e9cea0c15d871") parts_of_image_by_sha512 (Image (manifest_read text.image)) image_pack.0 refl to_image_by_sha512_pack
    (to_image_by_sha512_listed.0, to_image_by_sha512_listed.1, to_image_by_sha512_listed.2 ∙ sym digest_to_image_by_sha512) to_image_by_sha512_plain to_image_by_sha512_shows (λ same. refl) bundles_once both_once
    (omega (arith, first_length)) (omega (arith, manifest_length)) (omega (arith, list_length)) (omega (arith, bundle_length))
