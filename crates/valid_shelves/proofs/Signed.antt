-- The registries of the examples, from the facts about their bytes.
use Rattle.std.proofs.Common.{◌≡◌, ◌≤◌, ℕ, true, false, ◌||◌, List, [], ◌∷◌, codes, length, Option, Some, None, Ok, unwrap_or, is_some, option_map, refl, sym, ap, ◌∙◌, subst, arith}
use Rattle.std.specs.Prelude.{Contains, slice_index, bytes_eq, if◌then◌else◌}
use Rattle.std.specs.Cmp.Lexicographic.{nat_list_eq_equiv}
use Rattle.std.specs.FinMap.{empty, get, get-empty}
use Rattle.std.specs.List.{All}
use Rattle.std.specs.Ordering.{eq_by_cmp}
use Rattle.std.proofs.lemmas.List.Elements.{All-nil, All-cons}
use Rattle.json_values.specs.Places.{by_bytes}
use Rattle.json_tables.specs.Reading.{◌>>=◌}
use Rattle.oci_names.specs.declared.algorithm.Algorithm.{Algorithm}
use Rattle.oci_auth.specs.declared.auth.RegistryAuth.TheVariants.{Anonymous}
use Rattle.oci_digests.specs.Checks.{parts_of}
use Rattle.oci_digests.specs.Names.{digest_text}
use Rattle.oci_manifests.specs.declared.promise.ResolverPromise.{ResolverPromise}
use Rattle.oci_manifests.specs.declared.document.OciManifest.{OciManifest}
use Rattle.engine_answers.specs.Documents.{document_read}
use Rattle.engine_answers.specs.Referrers.{index_read}
use Rattle.cosign_parts.specs.Bundle.{has_digits}
use Rattle.cosign_parts.specs.Envelope.{signed_text}
use Rattle.cosign_parts.specs.Payload.{equal_to}
use Rattle.cosign_parts.specs.Shown.{shown, is_about, payload_shown}
use Rattle.cosign_parts.specs.declared.layer.LayerKind.TheVariants.{Payload, Bundle}
use Rattle.cosign_layers.specs.Checks.{input, layer_read}
use Rattle.cosign_rows.specs.References.{signature_tag}
use Rattle.cosign_laws.specs.Shelves.{ValidShelf}
use Rattle.cosign_laws.specs.Small.{Packed, sha256, shelf_of, IsSmall}
use Rattle.cosign_laws.proofs.RightShelf.{small_valid}
use Rattle.cosign_laws.proofs.ShelfPulls.{valid_wide}
use Rattle.valid_shelves.specs.Referred.{Selects, IsReferred}
use Rattle.valid_shelves.proofs.Maps.{inserted, others_by}
use Rattle.valid_shelves.proofs.ReferredShelf.{referred_wide}
use Rattle.valid_shelves.specs.Examples.{settings, repository, tag, reference, accepted, context, trusting, IsSignedByTag, IsSignedByReferrer}
use Rattle.valid_shelves.specs.Texts as text
use Rattle.valid_shelves.proofs.Facts.{digest_of_image, digest_of_signatures, tag_begins, image_pack, signatures_pack, notes, signatures_noted, signing, payload_signs, subject_by}
use Rattle.valid_shelves.proofs.Layers.{signed_layer, shows_plainly, is_read}
use Rattle.valid_shelves.proofs.Packs.{descriptor_in, listed_in, entry_read, IsPack, IsListed, packed, has_bytes}
use Rattle.valid_shelves.proofs.Requests.{reads_itself, written, stands}

abbrev pub image_packed : Packed
image_packed = packed text.image text.config text.layer text.layer_type image_pack

abbrev Short : List ℕ → Type 0
Short bytes = length bytes ≤ 4294967295

all_of_four : (a b c d : List ℕ) → Short a → Short b → Short c → Short d → All Short (a ∷ b ∷ c ∷ d ∷ [])
all_of_four a b c d sa sb sc sd = All-cons Short a (b ∷ c ∷ d ∷ []) sa (All-cons Short b (c ∷ d ∷ []) sb (All-cons Short c (d ∷ []) sc (All-cons Short d [] sd (All-nil Short))))

-- ---- under the tag

abbrev signatures_packed : Packed
signatures_packed = packed text.signatures text.config text.payload text.payload_type signatures_pack

none_at : (q : List ℕ) → eq_by_cmp by_bytes q (codes "dev.cosignproject.cosign/signature") ≡ false → get notes q ≡ None
none_at q other = others_by empty (codes "dev.cosignproject.cosign/signature") (codes "c2lnMQ==") q other ∙ get-empty by_bytes q

shows_payload : payload_shown notes signing ≡ shows_plainly (Some signing) []
shows_payload = rw (inserted empty (codes "dev.cosignproject.cosign/signature") (codes "c2lnMQ=="), none_at (codes "dev.sigstore.cosign/bundle") refl, none_at (codes "dev.sigstore.cosign/certificate") refl) refl

found : shown Payload text.payload notes ≡ Some (shows_plainly (Some signing) [])
found = ap (option_map (payload_shown notes)) payload_signs ∙ ap Some shows_payload

about : is_about (sha256 text.image) (shows_plainly (Some signing) []) ≡ true
about = ap (bytes_eq (codes "sha256:517b86da29754bfa57e312c35d4cf22caa38dbce39ecd24684830c1f9777a635")) digest_of_image

read_payload : layer_read (trusting text.payload) (sha256 text.image) (input Payload text.payload (sha256 text.payload) notes) ≡ Ok (signed_layer Payload text.payload notes (Some signing))
read_payload = is_read (trusting text.payload) Payload text.payload (sha256 text.image) notes (Some signing) [] found about

other_tag : (tag ≡ signature_tag (sha256 text.image)) → ⊥
other_tag same =
    let begins : 118 ≡ 115 = ap (λ (t : List ℕ). slice_index t 0) (same ∙ ap signature_tag digest_of_image) ∙ tag_begins in
    absurd (omega (arith, begins))

other_document : (sha256 text.signatures ≡ sha256 text.image) → ⊥
other_document same =
    let differ : 51 ≡ 53 = ap (λ (t : List ℕ). slice_index t 7) (sym digest_of_signatures ∙ same ∙ digest_of_image) in
    absurd (omega (arith, differ))

small : IsSmall (context Payload text.payload) (settings None) reference Anonymous accepted tag image_packed signatures_packed
small =
    let image_length : length text.image ≡ 393 = refl in
    let signatures_length : length text.signatures ≡ 468 = refl in
    let payload_length : length text.payload ≡ 234 = refl in
    record {
      by_tag = refl;
      no_digest = refl;
      reads_back_is = reads_itself;
      written = written None;
      agent = refl;
      credentials = tt;
      accepts = (0, omega arith, sym image_pack.4);
      payload = (0, omega arith, sym signatures_pack.4);
      signature = signed_layer Payload text.payload notes (Some signing);
      is_read = (λ i. layer_read (trusting text.payload) (sha256 text.image) (input Payload text.payload (signatures_pack.3 i) (signatures_noted i))) ∙ read_payload;
      stands = stands Payload text.payload notes (Some signing) (sha256 text.image) read_payload;
      no_entry = refl;
      no_certificate = refl;
      other_tag = other_tag;
      other_document = other_document;
      documents_short = (omega (arith, image_length), omega (arith, signatures_length));
      blobs_short = all_of_four text.config text.layer text.config text.payload (omega arith) (omega arith) (omega arith) (omega (arith, payload_length));
    }

valid : ValidShelf (context Payload text.payload) (settings None) reference Anonymous accepted (shelf_of repository tag image_packed signatures_packed)
valid = small_valid small

pub by_tag : IsSignedByTag
by_tag = record {
  image = image_packed;
  image_is = has_bytes text.image text.config text.layer text.layer_type image_pack;
  signatures = signatures_packed;
  signatures_are = has_bytes text.signatures text.config text.payload text.payload_type signatures_pack;
  premise = small;
  wide = valid_wide (context Payload text.payload) (settings None) reference Anonymous accepted (shelf_of repository tag image_packed signatures_packed) valid;
}

-- ---- by a referrer

module _ (resolver : Option ResolverPromise) (algorithm : Algorithm) (first : List ℕ) (r : text.Referred) (name digits : List ℕ)
    (parts : parts_of (digest_text algorithm first) ≡ Some (name, digits)) (document : OciManifest) (reads : document_read first ≡ Ok document)
    (selects : Selects (settings resolver) image_packed document) (pack : IsPack r.manifest text.config r.bundle text.bundle_type)
    (listed : IsListed r.list (sha256 r.manifest)) (plain : unwrap_or (descriptor_in r.manifest).annotations empty ≡ empty)
    (shows : shown Bundle r.bundle empty ≡ Some (shows_plainly None (subject_by name digits ∷ [])))
    (image_once : (sha256 text.image ≡ digest_text algorithm first) → first ≡ text.image)
    (bundles_once : (sha256 r.manifest ≡ digest_text algorithm first) → first ≡ r.manifest)
    (both_once : (sha256 r.manifest ≡ sha256 text.image) → text.image ≡ r.manifest)
    (first_short : Short first) (bundles_short : Short r.manifest) (list_short : Short r.list) (bundle_short : Short r.bundle) where
  abbrev bundles_packed : Packed
  bundles_packed = packed r.manifest text.config r.bundle text.bundle_type pack

  is_itself : is_some (equal_to digits digits) ≡ true
  is_itself = ap (λ b. is_some (if b then Some digits else None)) (nat_list_eq_equiv.refl digits)

  about_first : is_about (digest_text algorithm first) (shows_plainly None (subject_by name digits ∷ [])) ≡ true
  about_first =
      ap (λ (o : Option (List ℕ × List ℕ)). has_digits o (subject_by name digits) || false) parts
      ∙ ap (λ (o : Option (List ℕ)). is_some (o >>= equal_to digits) || false) (inserted empty name digits)
      ∙ ap (λ b. b || false) is_itself

  read_first : layer_read (trusting (signed_text Bundle r.bundle)) (digest_text algorithm first) (input Bundle r.bundle (sha256 r.bundle) empty) ≡ Ok (signed_layer Bundle r.bundle empty None)
  read_first = is_read (trusting (signed_text Bundle r.bundle)) Bundle r.bundle (digest_text algorithm first) empty None (subject_by name digits ∷ []) shows about_first

  premise : IsReferred (context Bundle r.bundle) (settings resolver) reference Anonymous accepted algorithm tag first r.list image_packed bundles_packed
  premise =
      let image_length : length text.image ≡ 393 = refl in
      record {
        by_tag = refl;
        no_digest = refl;
        reads_back_is = reads_itself;
        written = written resolver;
        agent = refl;
        credentials = tt;
        document = document;
        reads = reads;
        selects = selects;
        accepts = (0, omega arith, sym image_pack.4);
        index = listed_in (index_read r.list);
        lists = listed.0;
        entry = entry_read r.list;
        among = subst (λ xs. Contains xs (entry_read r.list)) (sym listed.1) (0, omega arith, refl);
        entry_is = listed.2;
        bundle = (0, omega arith, sym pack.4);
        signature = signed_layer Bundle r.bundle empty None;
        is_read = (λ i. layer_read (trusting (signed_text Bundle r.bundle)) (digest_text algorithm first) (input Bundle r.bundle (sha256 r.bundle) (plain i))) ∙ read_first;
        stands = stands Bundle r.bundle empty None (digest_text algorithm first) read_first;
        image_once = image_once;
        bundles_once = bundles_once;
        both_once = both_once;
        documents_short = all_of_four first text.image r.manifest r.list first_short (omega (arith, image_length)) bundles_short list_short;
        blobs_short = all_of_four text.config text.layer text.config r.bundle (omega arith) (omega arith) (omega arith) bundle_short;
      }

  pub by_referrer : IsSignedByReferrer resolver algorithm first r
  by_referrer = record {
    image = image_packed;
    image_is = has_bytes text.image text.config text.layer text.layer_type image_pack;
    bundles = bundles_packed;
    bundles_are = has_bytes r.manifest text.config r.bundle text.bundle_type pack;
    premise = premise;
    wide = referred_wide premise;
  }
