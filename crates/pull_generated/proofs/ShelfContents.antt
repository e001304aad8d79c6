-- The contents of the generated shelf.
use Rattle.std.proofs.Common.{◌≡◌, ◌<◌, ◌≤◌, ◌+◌, ◌*◌, ◌^◌, ℕ, Bool, true, false, List, [], ◌∷◌, ◌++◌, length, map, codes, Some, Ok, IsTrue, Contains, refl, sym, ap, subst, ◌∙◌, arith, length-append}
use Rattle.std.specs.Prelude.{decimal, slice_index}
use Rattle.std.specs.List.{All, concat}
use Rattle.std.proofs.lemmas.List.{length-map}
use Rattle.std.proofs.lemmas.List.Elements.{All-nil, All-cons, All-map}
use Rattle.std.specs.FinMap.{FinMap, get, insert, empty}
use Rattle.hex.specs.Hex.{encode_lower}
use Rattle.sha2.specs.Sha256.{sha256}
use Rattle.json_values.specs.Places.{by_bytes}
use Rattle.oci_digests.specs.Names.{Names}
use Rattle.oci_names.specs.declared.algorithm.Algorithm.TheVariants.{Sha256}
use Rattle.oci_manifests.specs.declared.descriptor.OciDescriptor.{OciDescriptor}
use Rattle.oci_manifests.specs.declared.document.OciManifest.TheVariants.{Image}
use Rattle.oci_manifests.specs.declared.manifest.OciImageManifest.{OciImageManifest}
use Rattle.oci_link.specs.declared.shelf.Shelf.{Shelf}
use Rattle.oci_link.specs.declared.shelf.ShelfDocument.{ShelfDocument}
use Rattle.engine_answers.specs.Documents.{document_read}
use Rattle.engine_terms.specs.declared.settings.Settings.{Settings}
use Rattle.shelf_laws.specs.Shelves.{FitsLimit, HasDocument, HasBlob, HasLayer, HasBlobs, HasManifest, ImageOn}
use Rattle.pull_generated.specs.Shelf.{with_each, manifest_document, tag_for, payload_of, generated_shelf, HasTwoDigests}
use Rattle.pull_generated.specs.Texts.{sha256_text, layer_contents, layer_type, payload_type, config_type, config_content, descriptor_of, joined, image_text, payload_text, signature_note, signatures_text}
use Rattle.pull_generated.proofs.Lengths.{digest_within, both_within, descriptor_within, joined_within, layers_within, layers_count}
use Rattle.pull_generated.proofs.ManifestTexts.{describing, plain_config, image_manifest, image_read, signatures_manifest, signatures_read}
use Rattle.pull_generated.proofs.Manifests.{Each}
use Rattle.pull_generated.proofs.Maps.{Has, Kept, inserted, others_stay, still_has, kept_empty, kept_insert, each_kept, each_there}

-- ---- lengths

payload_within : (digest : List ℕ) → length digest ≤ 71 → length (payload_text digest) ≤ 400
unfolding payload_text
payload_within digest h =
    let a = both_within digest (codes "\"},\"type\":\"cosign container image signature\"},\"optional\":null}" ++ []) 71 100 h (omega arith) in
    let b = both_within (codes "\"image\":{\"docker-manifest-digest\":\"") (digest ++ (codes "\"},\"type\":\"cosign container image signature\"},\"optional\":null}" ++ [])) 100 171 (omega arith) a in
    let c = both_within (codes "{\"critical\":{\"identity\":{\"docker-reference\":\"localhost:5000/gen\"},") (codes "\"image\":{\"docker-manifest-digest\":\"" ++ (digest ++ (codes "\"},\"type\":\"cosign container image signature\"},\"optional\":null}" ++ []))) 100 271 (omega arith) b in
    omega (arith, c)

pub payload_short : (n : ℕ) → length (payload_of n) ≤ 400
payload_short n = payload_within (sha256_text (image_text n)) (digest_within (image_text n))

around_within : (config layers : List ℕ) (m : ℕ) → length config ≤ 300 → length layers ≤ m → length (concat (codes "{\"schemaVersion\":2,\"mediaType\":\"application/vnd.oci.image.manifest.v1+json\",\"config\":" ∷ config ∷ codes ",\"layers\":[" ∷ layers ∷ codes "]}" ∷ [])) ≤ 500 + m
around_within config layers m hc hl =
    let a = both_within layers (codes "]}" ++ []) m 2 hl (omega arith) in
    let b = both_within (codes ",\"layers\":[") (layers ++ (codes "]}" ++ [])) 20 (m + 2) (omega arith) a in
    let c = both_within config (codes ",\"layers\":[" ++ (layers ++ (codes "]}" ++ []))) 300 (20 + (m + 2)) hc b in
    let d = both_within (codes "{\"schemaVersion\":2,\"mediaType\":\"application/vnd.oci.image.manifest.v1+json\",\"config\":") (config ++ (codes ",\"layers\":[" ++ (layers ++ (codes "]}" ++ [])))) 150 (300 + (20 + (m + 2))) (omega arith) c in
    omega (arith, d)

each_map : {X Y : Type 0} (P : Y → Type 0) (Q : X → Type 0) (f : X → Y) → ((x : X) → Q x → P (f x)) → (xs : List X) → Each Q xs → Each P (map f xs)
each_map P Q f more [] each = tt
each_map P Q f more (x ∷ xs) each = (more x each.0, each_map P Q f more xs each.1)

config_within : length (descriptor_of config_type [] config_content) ≤ 300
config_within = descriptor_within config_type (sha256_text config_content) (length config_content) [] (omega arith) (digest_within config_content) (omega arith) (omega arith)

image_within : (n : ℕ) → n ≤ 1000 → length (image_text n) ≤ 301500
unfolding image_text
image_within n small =
    let each = each_map (λ one. length one ≤ 300) (λ content. length content ≤ 17000) (descriptor_of layer_type []) (λ content short. descriptor_within layer_type (sha256_text content) (length content) [] (omega arith) (digest_within content) (omega (arith, short)) (omega arith)) (layer_contents n) (layers_within n (omega (arith, small))) in
    let texts = joined_within (map (descriptor_of layer_type []) (layer_contents n)) each in
    let mapped = length-map (layer_contents n) (descriptor_of layer_type []) in
    let count = layers_count n in
    around_within (descriptor_of config_type [] config_content) (joined (map (descriptor_of layer_type []) (layer_contents n))) 301000 config_within (omega (arith, texts, mapped, count, small))

signatures_within : (payload : List ℕ) → length payload ≤ 400 → length (signatures_text payload) ≤ 301500
unfolding signatures_text
signatures_within payload short =
    let one = descriptor_within payload_type (sha256_text payload) (length payload) signature_note (omega arith) (digest_within payload) (omega (arith, short)) (omega arith) in
    let texts = joined_within (descriptor_of payload_type signature_note payload ∷ []) (one, tt) in
    around_within (descriptor_of config_type [] config_content) (joined (descriptor_of payload_type signature_note payload ∷ [])) 301000 config_within (omega (arith, texts))

-- ---- blobs

-- the bytes have this digest, and are few
abbrev Fits : List ℕ → List ℕ → Type 0
Fits digest bytes = (digest ≡ sha256_text bytes) × (length bytes ≤ 17000)

blobs_fit : (n : ℕ) → n ≤ 1000 → Kept Fits (generated_shelf n).blobs
unfolding generated_shelf
blobs_fit n small =
    let short = payload_short n in
    let layers = with_each empty (layer_contents n) in
    let each = each_same (λ content. length content ≤ 17000) (λ content. Fits (sha256_text content) content) (λ content fits. (refl, fits)) (layer_contents n) (layers_within n (omega (arith, small))) in
    kept_insert Fits (insert layers (sha256_text config_content) config_content) (sha256_text (payload_of n)) (payload_of n) (refl, omega (arith, short))
    (kept_insert Fits layers (sha256_text config_content) config_content (refl, omega arith) (each_kept Fits (layer_contents n) each empty (kept_empty Fits))) where
      each_same : {X : Type 0} (P Q : X → Type 0) → ((x : X) → P x → Q x) → (xs : List X) → Each P xs → Each Q xs
      each_same P Q more [] each = tt
      each_same P Q more (x ∷ xs) each = (more x each.0, each_same P Q more xs each.1)

has_blob : (n : ℕ) → n ≤ 1000 → (digest : List ℕ) → Has (generated_shelf n).blobs digest → HasBlob (generated_shelf n) digest
has_blob n small digest has = record { blob = has.0; there = has.1; named = (Sha256, (blobs_fit n small digest has.0 has.1).0) }

pub payload_there : (n : ℕ) → get (generated_shelf n).blobs (sha256_text (payload_of n)) ≡ Some (payload_of n)
unfolding generated_shelf
payload_there n = inserted (insert (with_each empty (layer_contents n)) (sha256_text config_content) config_content) (sha256_text (payload_of n)) (payload_of n)

config_there : (n : ℕ) → Has (generated_shelf n).blobs (sha256_text config_content)
unfolding generated_shelf
config_there n = still_has (insert (with_each empty (layer_contents n)) (sha256_text config_content) config_content) (sha256_text (payload_of n)) (payload_of n) (sha256_text config_content) (config_content, inserted (with_each empty (layer_contents n)) (sha256_text config_content) config_content)

layer_there : (n : ℕ) (digest : List ℕ) → Has (with_each empty (layer_contents n)) digest → Has (generated_shelf n).blobs digest
unfolding generated_shelf
layer_there n digest has =
    let layers = with_each empty (layer_contents n) in
    still_has (insert layers (sha256_text config_content) config_content) (sha256_text (payload_of n)) (payload_of n) digest (still_has layers (sha256_text config_content) config_content digest has)

all_of : {X : Type 0} (P Q : X → Type 0) → ((x : X) → P x → Q x) → (xs : List X) → Each P xs → All Q xs
all_of P Q more [] each = All-nil Q
all_of P Q more (x ∷ xs) each = All-cons Q x xs (more x each.0) (all_of P Q more xs each.1)

first_is : (kind : List ℕ) → Contains (kind ∷ []) kind
first_is kind = (0, omega arith, refl)

image_blobs : (n : ℕ) → 1 ≤ n → n ≤ 1000 → HasBlobs (generated_shelf n) (layer_type ∷ []) (image_manifest n)
image_blobs n one small =
    let mapped = length-map (layer_contents n) (describing false layer_type) in
    let count = layers_count n in
    record {
      config = has_blob n small (sha256_text config_content) (config_there n);
      some = omega (arith, mapped, count, one);
      layers = All-map (HasLayer (generated_shelf n) (layer_type ∷ [])) (describing false layer_type) (layer_contents n) (all_of (λ content. Has (with_each empty (layer_contents n)) (sha256_text content)) (λ content. HasLayer (generated_shelf n) (layer_type ∷ []) (describing false layer_type content)) (λ content has. (has_blob n small (sha256_text content) (layer_there n (sha256_text content) has), first_is layer_type)) (layer_contents n) (each_there (layer_contents n) empty));
    }

pub payload_blobs : (n : ℕ) → n ≤ 1000 → HasBlobs (generated_shelf n) (payload_type ∷ []) (signatures_manifest (payload_of n))
payload_blobs n small = record {
  config = has_blob n small (sha256_text config_content) (config_there n);
  some = omega arith;
  layers = All-cons (HasLayer (generated_shelf n) (payload_type ∷ [])) (describing true payload_type (payload_of n)) [] (has_blob n small (sha256_text (payload_of n)) (payload_of n, payload_there n), first_is payload_type) (All-nil (HasLayer (generated_shelf n) (payload_type ∷ [])));
}

-- ---- documents

image_there : (n : ℕ) → HasDocument (generated_shelf n) (sha256_text (image_text n)) (image_text n)
unfolding generated_shelf
image_there n = record {
  document = manifest_document (image_text n);
  there = inserted (insert empty (sha256_text (signatures_text (payload_of n))) (manifest_document (signatures_text (payload_of n)))) (sha256_text (image_text n)) (manifest_document (image_text n));
  content = refl;
  named = (Sha256, refl);
}

signatures_there : (n : ℕ) → HasTwoDigests n → HasDocument (generated_shelf n) (sha256_text (signatures_text (payload_of n))) (signatures_text (payload_of n))
unfolding generated_shelf
signatures_there n two =
    let signed = sha256_text (signatures_text (payload_of n)) in
    let first = insert empty signed (manifest_document (signatures_text (payload_of n))) in
    record {
      document = manifest_document (signatures_text (payload_of n));
      there = others_stay first (sha256_text (image_text n)) (manifest_document (image_text n)) signed (λ same. two (sym same)) ∙ inserted empty signed (manifest_document (signatures_text (payload_of n)));
      content = refl;
      named = (Sha256, refl);
    }

pub image_on : (s : Settings) (n : ℕ) → 1 ≤ n → n ≤ 1000 → ImageOn s (generated_shelf n) (sha256_text (image_text n)) (layer_type ∷ [])
image_on s n one small = record {
  first = image_text n;
  there = image_there n;
  document = Image (image_manifest n);
  reads = image_read n (omega (arith, small));
  manifest = image_manifest n;
  leads = refl;
  blobs = image_blobs n one small;
}

pub has_signatures : (n : ℕ) → HasTwoDigests n → HasManifest (generated_shelf n) (sha256_text (signatures_text (payload_of n))) (signatures_manifest (payload_of n))
has_signatures n two =
    let short = payload_short n in
    (signatures_text (payload_of n), signatures_there n two, signatures_read (payload_of n) (omega (arith, short)))

-- ---- tags

pub tagged : (n : ℕ) → get (generated_shelf n).tags (codes "v1") ≡ Some (sha256_text (image_text n))
unfolding generated_shelf
tagged n = inserted (insert empty (tag_for (image_text n)) (sha256_text (signatures_text (payload_of n)))) (codes "v1") (sha256_text (image_text n))

other_tag : (bytes : List ℕ) → tag_for bytes ≡ codes "v1" → ⊥
other_tag bytes same = cc same

pub signatures_tagged : (n : ℕ) → get (generated_shelf n).tags (tag_for (image_text n)) ≡ Some (sha256_text (signatures_text (payload_of n)))
unfolding generated_shelf
signatures_tagged n =
    let signed = sha256_text (signatures_text (payload_of n)) in
    others_stay (insert empty (tag_for (image_text n)) signed) (codes "v1") (sha256_text (image_text n)) (tag_for (image_text n)) (other_tag (image_text n)) ∙ inserted empty (tag_for (image_text n)) signed

-- ---- nothing is long

documents_fit : (n : ℕ) → n ≤ 1000 → Kept (λ digest document. length document.content ≤ 301500) (generated_shelf n).documents
unfolding generated_shelf
documents_fit n small =
    let P : List ℕ → ShelfDocument → Type 0 = λ digest document. length document.content ≤ 301500 in
    let signed = sha256_text (signatures_text (payload_of n)) in
    kept_insert P (insert empty signed (manifest_document (signatures_text (payload_of n)))) (sha256_text (image_text n)) (manifest_document (image_text n)) (image_within n small)
    (kept_insert P empty signed (manifest_document (signatures_text (payload_of n))) (signatures_within (payload_of n) (payload_short n)) (kept_empty P))

no_referrers : (n : ℕ) → Kept (λ digest body. ⊥) (generated_shelf n).referrers
unfolding generated_shelf
no_referrers n = kept_empty (λ digest body. ⊥)

pub is_short : (s : Settings) (n : ℕ) → n ≤ 1000 → 301500 ≤ s.max_body_bytes → FitsLimit s (generated_shelf n)
is_short s n small room = record {
  documents = λ digest document there. let fits = documents_fit n small digest document there in omega (arith, fits, room);
  blobs = λ digest blob there. let fits = (blobs_fit n small digest blob there).1 in omega (arith, fits, room);
  referrers = λ digest body there. absurd (no_referrers n digest body there);
}
