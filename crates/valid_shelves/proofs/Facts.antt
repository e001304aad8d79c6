-- Facts about the bytes, found by evaluation: hashes, documents, and what bundles contain.
use Rattle.std.proofs.Common.{◌≡◌, ℕ, List, [], ◌∷◌, codes, Some, None, Ok, unwrap_or, refl}
use Rattle.std.specs.Prelude.{slice_index}
use Rattle.std.specs.FinMap.{empty, insert}
use Rattle.std.specs.Str.{is_utf8, chars}
use lib.Utf8.{encode}
use Rattle.json.specs.Lex.{lex, punctuate}
use Rattle.json.specs.Json.{items, members, value}
use Rattle.json.specs.Text.{content, code_unit, short_escape}
use Rattle.json.specs.Word.{word, after_number}
use Rattle.serde_json.specs.Read.{number_of}
use Rattle.serde_json.specs.Data.{null}
use Rattle.fast_float.specs.Text.{scan}
use Rattle.base64.specs.Rfc4648.{encode_symbols}
use Rattle.base64.specs.Decode.{groups_error, scan_steps, groups_bytes}
use Rattle.base64.specs.GeneralPurpose.{decoded_of}
use Rattle.hex.specs.Hex.{encode_with}
use Rattle.sha2.specs.Sha256.{compress, digest_bytes, first_words, hash_after, rounds, schedule, sha256}
use Rattle.sha2.specs.Sha512 as long
use Rattle.oci_digests.specs.Names.{digest_text}
use Rattle.oci_digests.specs.Checks.{parts_of}
use Rattle.oci_names.specs.declared.algorithm.Algorithm.TheVariants.{Sha256, Sha512}
use Rattle.oci_manifests.specs.Descriptor.{descriptor_of}
use Rattle.oci_manifests.specs.IndexEntry.{entry_of}
use Rattle.oci_manifests.specs.Platform.{platform_of}
use Rattle.oci_manifests.specs.Versioned.{versioned_of}
use Rattle.oci_manifests.specs.Manifest.{manifest_of}
use Rattle.oci_manifests.specs.Index.{index_of}
use Rattle.oci_manifests.specs.Document.{document_of}
use Rattle.oci_manifests.specs.declared.document.OciManifest.TheVariants.{ImageIndex}
use Rattle.engine_answers.specs.Documents.{document_read}
use Rattle.engine_answers.specs.Index.{entry_found}
use Rattle.cosign_parts.specs.Bundle.{envelope_of}
use Rattle.cosign_parts.specs.Payload.{payload_of, content_of}
use Rattle.cosign_parts.specs.Shown.{Notes, shown}
use Rattle.cosign_parts.specs.declared.layer.LayerKind.TheVariants.{Bundle}
use Rattle.cosign_parts.specs.declared.layer.SimpleSigning.{SimpleSigning}
use Rattle.cosign_parts.specs.declared.shown.Subject.{Subject}
use Rattle.cosign_rows.specs.References.{signature_tag}
use Rattle.valid_shelves.specs.Examples.{linux_amd64}
use Rattle.valid_shelves.specs.Texts as text
use Rattle.valid_shelves.proofs.Layers.{shows_plainly}
use Rattle.valid_shelves.proofs.Packs.{IsPack, descriptor_in, index_in, IsListed}

-- ---- hashes

pub digest_of_image : digest_text Sha256 text.image ≡ codes "sha256:517b86da29754bfa57e312c35d4cf22caa38dbce39ecd24684830c1f9777a635"
unfolding first_words schedule rounds compress hash_after digest_bytes sha256 encode_with
digest_of_image = refl

pub digest_of_index : digest_text Sha256 text.index ≡ codes "sha256:28f616d938d849005e1dca8332490d44c59f0908c81ac142e27c24b72d4501bb"
unfolding first_words schedule rounds compress hash_after digest_bytes sha256 encode_with
digest_of_index = refl

pub digest_of_signatures : digest_text Sha256 text.signatures ≡ codes "sha256:352d647271ccfc459018f388cb2644fbd32245e9370879879ec72ddc20ee8327"
unfolding first_words schedule rounds compress hash_after digest_bytes sha256 encode_with
digest_of_signatures = refl

pub digest_to_image : digest_text Sha256 text.to_image.manifest ≡ codes "sha256:0d22dceb2f4767a2fcc4073409a4b307c0cca0e7c2b4ab45d711ca9ea4cd38bc"
unfolding first_words schedule rounds compress hash_after digest_bytes sha256 encode_with
digest_to_image = refl

pub digest_to_index : digest_text Sha256 text.to_index.manifest ≡ codes "sha256:8dee11cace379afeacec08a7a5531c2fd0ac546101852cbc2a0c52a05e6a7f1c"
unfolding first_words schedule rounds compress hash_after digest_bytes sha256 encode_with
digest_to_index = refl

pub digest_to_image_by_sha512 : digest_text Sha256 text.to_image_by_sha512.manifest ≡ codes "sha256:83664db07a6ab9506d6a45e943c1db2d37325df38cd784a7da526c5cd30acb59"
unfolding first_words schedule rounds compress hash_after digest_bytes sha256 encode_with
digest_to_image_by_sha512 = refl

pub digest_of_image_by_sha512 : digest_text Sha512 text.image ≡ codes "sha512:0c85e500299144474d92fc114e29c49af9ee9b2eef612f1ea1b6d5ff9c24a381b3db92cc8649cc39db8a7e553ee58232781c32052b234bc2289e9cea0c15d871"
unfolding long.first_words long.schedule long.rounds long.compress long.hash_after long.digest_bytes long.sha512 encode_with
digest_of_image_by_sha512 = refl

pub parts_of_image : parts_of (digest_text Sha256 text.image) ≡ Some (codes "sha256", codes "517b86da29754bfa57e312c35d4cf22caa38dbce39ecd24684830c1f9777a635")
unfolding is_utf8 first_words schedule rounds compress hash_after digest_bytes sha256 encode_with
parts_of_image = refl

pub parts_of_index : parts_of (digest_text Sha256 text.index) ≡ Some (codes "sha256", codes "28f616d938d849005e1dca8332490d44c59f0908c81ac142e27c24b72d4501bb")
unfolding is_utf8 first_words schedule rounds compress hash_after digest_bytes sha256 encode_with
parts_of_index = refl

pub parts_of_image_by_sha512 : parts_of (digest_text Sha512 text.image) ≡ Some (codes "sha512", codes "0c85e500299144474d92fc114e29c49af9ee9b2eef612f1ea1b6d5ff9c24a381b3db92cc8649cc39db8a7e553ee58232781c32052b234bc2289e9cea0c15d871")
unfolding is_utf8 long.first_words long.schedule long.rounds long.compress long.hash_after long.digest_bytes long.sha512 encode_with
parts_of_image_by_sha512 = refl

pub tag_begins : slice_index (signature_tag (codes "sha256:517b86da29754bfa57e312c35d4cf22caa38dbce39ecd24684830c1f9777a635")) 0 ≡ 115
unfolding chars encode
tag_begins = refl

-- ---- documents

pub image_pack : IsPack text.image text.config text.layer text.layer_type
unfolding is_utf8 chars encode lex punctuate items members value content code_unit short_escape number_of scan word after_number versioned_of manifest_of descriptor_of index_of document_of first_words schedule rounds compress hash_after digest_bytes sha256 encode_with
image_pack = (refl, refl, refl, refl, refl)

pub signatures_pack : IsPack text.signatures text.config text.payload text.payload_type
unfolding is_utf8 chars encode lex punctuate items members value content code_unit short_escape number_of scan word after_number versioned_of manifest_of descriptor_of index_of document_of first_words schedule rounds compress hash_after digest_bytes sha256 encode_with
signatures_pack = (refl, refl, refl, refl, refl)

pub to_image_pack : IsPack text.to_image.manifest text.config text.to_image.bundle text.bundle_type
unfolding is_utf8 chars encode lex punctuate items members value content code_unit short_escape number_of scan word after_number versioned_of manifest_of descriptor_of index_of document_of first_words schedule rounds compress hash_after digest_bytes sha256 encode_with encode_symbols
to_image_pack = (refl, refl, refl, refl, refl)

pub to_index_pack : IsPack text.to_index.manifest text.config text.to_index.bundle text.bundle_type
unfolding is_utf8 chars encode lex punctuate items members value content code_unit short_escape number_of scan word after_number versioned_of manifest_of descriptor_of index_of document_of first_words schedule rounds compress hash_after digest_bytes sha256 encode_with encode_symbols
to_index_pack = (refl, refl, refl, refl, refl)

pub to_image_by_sha512_pack : IsPack text.to_image_by_sha512.manifest text.config text.to_image_by_sha512.bundle text.bundle_type
unfolding is_utf8 chars encode lex punctuate items members value content code_unit short_escape number_of scan word after_number versioned_of manifest_of descriptor_of index_of document_of first_words schedule rounds compress hash_after digest_bytes sha256 encode_with encode_symbols
to_image_by_sha512_pack = (refl, refl, refl, refl, refl)

pub to_image_listed : IsListed text.to_image.list (codes "sha256:0d22dceb2f4767a2fcc4073409a4b307c0cca0e7c2b4ab45d711ca9ea4cd38bc")
unfolding is_utf8 chars encode lex punctuate items members value content code_unit short_escape number_of scan word after_number versioned_of manifest_of descriptor_of index_of document_of entry_of
to_image_listed = (refl, refl, refl)

pub to_index_listed : IsListed text.to_index.list (codes "sha256:8dee11cace379afeacec08a7a5531c2fd0ac546101852cbc2a0c52a05e6a7f1c")
unfolding is_utf8 chars encode lex punctuate items members value content code_unit short_escape number_of scan word after_number versioned_of manifest_of descriptor_of index_of document_of entry_of
to_index_listed = (refl, refl, refl)

pub to_image_by_sha512_listed : IsListed text.to_image_by_sha512.list (codes "sha256:83664db07a6ab9506d6a45e943c1db2d37325df38cd784a7da526c5cd30acb59")
unfolding is_utf8 chars encode lex punctuate items members value content code_unit short_escape number_of scan word after_number versioned_of manifest_of descriptor_of index_of document_of entry_of
to_image_by_sha512_listed = (refl, refl, refl)

pub index_reads : document_read text.index ≡ Ok (ImageIndex (index_in (document_read text.index)))
unfolding is_utf8 chars encode lex punctuate items members value content code_unit short_escape number_of scan word after_number versioned_of manifest_of descriptor_of index_of document_of entry_of platform_of
index_reads = refl

pub index_selects : entry_found (Some linux_amd64) (index_in (document_read text.index)).manifests ≡ Ok (codes "sha256:517b86da29754bfa57e312c35d4cf22caa38dbce39ecd24684830c1f9777a635")
unfolding is_utf8 chars encode lex punctuate items members value content code_unit short_escape number_of scan word after_number versioned_of manifest_of descriptor_of index_of document_of entry_of platform_of
index_selects = refl

-- ---- what is found in layers

abbrev pub notes : Notes
notes = insert empty (codes "dev.cosignproject.cosign/signature") (codes "c2lnMQ==")

pub signatures_noted : unwrap_or (descriptor_in text.signatures).annotations empty ≡ notes
unfolding is_utf8 chars encode lex punctuate items members value content code_unit short_escape number_of scan word after_number versioned_of manifest_of descriptor_of index_of document_of
signatures_noted = refl

abbrev pub signing : SimpleSigning
signing = record { docker_reference = codes "localhost:5000/app"; docker_manifest_digest = codes "sha256:517b86da29754bfa57e312c35d4cf22caa38dbce39ecd24684830c1f9777a635"; optional = null }

pub payload_signs : content_of text.payload ≡ Some signing
unfolding is_utf8 chars encode lex punctuate items members value content code_unit short_escape number_of scan word after_number payload_of
payload_signs = refl

-- the subject with these digits for this algorithm
abbrev pub subject_by : List ℕ → List ℕ → Subject
subject_by algorithm digits = record { digest = insert empty algorithm digits }

pub to_image_shows : shown Bundle text.to_image.bundle empty ≡ Some (shows_plainly None (subject_by (codes "sha256") (codes "517b86da29754bfa57e312c35d4cf22caa38dbce39ecd24684830c1f9777a635") ∷ []))
unfolding is_utf8 chars encode lex punctuate items members value content code_unit short_escape number_of scan word after_number encode_symbols decoded_of groups_error scan_steps groups_bytes envelope_of
to_image_shows = refl

pub to_image_plain : unwrap_or (descriptor_in text.to_image.manifest).annotations empty ≡ empty
unfolding is_utf8 chars encode lex punctuate items members value content code_unit short_escape number_of scan word after_number versioned_of manifest_of descriptor_of index_of document_of
to_image_plain = refl

pub to_index_shows : shown Bundle text.to_index.bundle empty ≡ Some (shows_plainly None (subject_by (codes "sha256") (codes "28f616d938d849005e1dca8332490d44c59f0908c81ac142e27c24b72d4501bb") ∷ []))
unfolding is_utf8 chars encode lex punctuate items members value content code_unit short_escape number_of scan word after_number encode_symbols decoded_of groups_error scan_steps groups_bytes envelope_of
to_index_shows = refl

pub to_index_plain : unwrap_or (descriptor_in text.to_index.manifest).annotations empty ≡ empty
unfolding is_utf8 chars encode lex punctuate items members value content code_unit short_escape number_of scan word after_number versioned_of manifest_of descriptor_of index_of document_of
to_index_plain = refl

pub to_image_by_sha512_shows : shown Bundle text.to_image_by_sha512.bundle empty ≡ Some (shows_plainly None (subject_by (codes "sha512") (codes "0c85e500299144474d92fc114e29c49af9ee9b2eef612f1ea1b6d5ff9c24a381b3db92cc8649cc39db8a7e553ee58232781c32052b234bc2289e9cea0c15d871") ∷ []))
unfolding is_utf8 chars encode lex punctuate items members value content code_unit short_escape number_of scan word after_number encode_symbols decoded_of groups_error scan_steps groups_bytes envelope_of
to_image_by_sha512_shows = refl

pub to_image_by_sha512_plain : unwrap_or (descriptor_in text.to_image_by_sha512.manifest).annotations empty ≡ empty
unfolding is_utf8 chars encode lex punctuate items members value content code_unit short_escape number_of scan word after_number versioned_of manifest_of descriptor_of index_of document_of
to_image_by_sha512_plain = refl
