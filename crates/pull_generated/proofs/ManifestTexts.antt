-- The texts of the two manifests parse as manifests.
use Rattle.std.proofs.Common.{◌≡◌, ◌<◌, ◌≤◌, ◌^◌, ◌==◌, ◌||◌, ◌&&◌, ℕ, Bool, true, false, List, [], ◌∷◌, ◌++◌, length, map, flat_map, codes, Some, Ok, IsUtf8, refl, sym, ap, subst, ◌∙◌, arith}
use Rattle.std.specs.Prelude.{decimal, nat_le}
use Rattle.json.specs.Print.{escape, escape_byte}
use Rattle.json.proofs.Printed.Decimals.{IsNumber-decimal}
use Rattle.serde_json.specs.Data.{Data}
use Rattle.serde_json.specs.Written.{compact_text, members_text}
use Rattle.json_values.specs.JsonText.{json_of}
use Rattle.oci_digests.specs.Checks.{is_header_text}
use Rattle.oci_manifests.specs.declared.descriptor.OciDescriptor.{OciDescriptor}
use Rattle.oci_manifests.specs.declared.document.OciManifest.TheVariants.{Image}
use Rattle.oci_manifests.specs.declared.manifest.OciImageManifest.{OciImageManifest}
use Rattle.engine_answers.specs.Documents.{document_read}
use Rattle.oci_digests.proofs.HexDigits.{all_append}
use Rattle.pull_generated.specs.Texts.{sha256_text, layer_contents, layer_type, payload_type, config_type, config_content, descriptor_of, joined, plain_manifest, image_text, signature_note, signatures_text}
use Rattle.pull_generated.proofs.Lengths.{layers_within}
use Rattle.pull_generated.proofs.Manifests.{Each, more_of, sorted_descriptor, sorted_manifest, described, manifest_with, manifest_reads, manifest_read, descriptor_reads, descriptor_numbers, descriptor_shallow, descriptor_plain, descriptor_is, items_read, items_numbers, items_shallow, items_plain, items_are}
use Rattle.pull_generated.proofs.Plain.{concat_shows, digest_shows, decimal_shows, digest_stays, shown_utf8}
use Rattle.pull_generated.proofs.PlainTexts.{json_compact}
use Rattle.pull_generated.proofs.ImageTexts.{descriptor_data, items, manifest_data, descriptor_spelled, joined_spelled, manifest_spelled}

-- ---- valid header values

abbrev note_of : Bool → List ℕ
note_of false = []
note_of true = signature_note

note_shows : (noted : Bool) → is_header_text (note_of noted) ≡ true
note_shows false = refl
note_shows true = refl

descriptor_shows : (noted : Bool) (kind bytes : List ℕ) → is_header_text kind ≡ true → length bytes < 2 ^ 64 → is_header_text (descriptor_of kind (note_of noted) bytes) ≡ true
descriptor_shows noted kind bytes shows small =
    concat_shows (codes "{\"mediaType\":\"" ∷ kind ∷ codes "\",\"digest\":\"" ∷ sha256_text bytes ∷ codes "\",\"size\":" ∷ decimal (length bytes) ∷ note_of noted ∷ codes "}" ∷ [])
    (refl, (shows, (refl, (digest_shows bytes, (refl, (decimal_shows (length bytes) small, (note_shows noted, (refl, tt))))))))

behind_shows : {X : Type 0} (P : X → Type 0) (f : X → List ℕ) → ((x : X) → P x → is_header_text (f x) ≡ true) → (xs : List X) → Each P xs → is_header_text (flat_map (λ one. codes "," ++ one) (map f xs)) ≡ true
behind_shows P f shows [] each = refl
behind_shows P f shows (x ∷ xs) each =
    all_append (λ b. b == 9 || (nat_le 32 b && nat_le b 126)) (codes "," ++ f x) (flat_map (λ one. codes "," ++ one) (map f xs)) (shows x each.0) (behind_shows P f shows xs each.1)

joined_shows : {X : Type 0} (P : X → Type 0) (f : X → List ℕ) → ((x : X) → P x → is_header_text (f x) ≡ true) → (xs : List X) → Each P xs → is_header_text (joined (map f xs)) ≡ true
joined_shows P f shows [] each = refl
joined_shows P f shows (x ∷ xs) each =
    all_append (λ b. b == 9 || (nat_le 32 b && nat_le b 126)) (f x) (flat_map (λ one. codes "," ++ one) (map f xs)) (shows x each.0) (behind_shows P f shows xs each.1)

-- ---- a manifest whose configuration is `{}`

abbrev Short : List ℕ → Type 0
Short bytes = length bytes ≤ 17000

abbrev pub describing : Bool → List ℕ → List ℕ → OciDescriptor
describing noted kind bytes = described noted kind (sha256_text bytes) (length bytes)

abbrev pub plain_config : OciDescriptor
plain_config = describing false config_type config_content

abbrev data_of : Bool → List ℕ → List ℕ → Data
data_of noted kind bytes = descriptor_data kind (sha256_text bytes) (length bytes) (more_of noted)

abbrev sorted_of : Bool → List ℕ → List ℕ → Data
sorted_of noted kind bytes = sorted_descriptor noted kind (sha256_text bytes) (length bytes)

note_ends : (noted : Bool) → members_text true (more_of noted) ≡ note_of noted ++ codes "}"
unfolding escape_byte
note_ends false = refl
note_ends true = refl

data_spelled : (noted : Bool) (kind : List ℕ) → escape kind ≡ kind → (bytes : List ℕ) → compact_text (data_of noted kind bytes) ≡ descriptor_of kind (note_of noted) bytes
data_spelled noted kind plain bytes = descriptor_spelled kind (sha256_text bytes) (length bytes) (more_of noted) (note_of noted) plain (digest_stays bytes) (note_ends noted)

config_stays : escape config_type ≡ config_type
unfolding escape_byte
config_stays = refl

module _ (noted : Bool) (kind : List ℕ) (stays : escape kind ≡ kind) (shows : is_header_text kind ≡ true) (contents : List (List ℕ)) (short : Each Short contents) where
  abbrev text : List ℕ
  text = plain_manifest (map (descriptor_of kind (note_of noted)) contents)

  abbrev tree_of : Data
  tree_of = manifest_data (data_of false config_type config_content) (map (data_of noted kind) contents)

  spelled : compact_text tree_of ≡ text
  spelled = manifest_spelled (data_of false config_type config_content) (map (data_of noted kind) contents) (descriptor_of config_type [] config_content) (joined (map (descriptor_of kind (note_of noted)) contents)) (data_spelled false config_type config_stays config_content) (joined_spelled (descriptor_of kind (note_of noted)) (data_of noted kind) (data_spelled noted kind stays) contents)

  is_text : IsUtf8 text
  is_text = shown_utf8 text (concat_shows (codes "{\"schemaVersion\":2,\"mediaType\":\"application/vnd.oci.image.manifest.v1+json\",\"config\":" ∷ descriptor_of config_type [] config_content ∷ codes ",\"layers\":[" ∷ joined (map (descriptor_of kind (note_of noted)) contents) ∷ codes "]}" ∷ [])
      (refl, (descriptor_shows false config_type config_content refl (omega arith), (refl, (joined_shows Short (descriptor_of kind (note_of noted)) (λ bytes fits. descriptor_shows noted kind bytes shows (omega (arith, fits))) contents short, (refl, tt))))))

  said : json_of text ≡ Some (sorted_manifest (sorted_of false config_type config_content) (items (map (sorted_of noted kind) contents)))
  said =
      let deep = items_shallow (data_of noted kind) (λ bytes. descriptor_shallow noted kind (sha256_text bytes) (length bytes)) contents in
      ap json_of (sym spelled) ∙ json_compact tree_of (sorted_manifest (sorted_of false config_type config_content) (items (map (sorted_of noted kind) contents)))
      (IsNumber-decimal 2 (omega arith), (tt, (descriptor_numbers false config_type (sha256_text config_content) (length config_content) (omega arith), (items_numbers Short (data_of noted kind) (λ bytes fits. descriptor_numbers noted kind (sha256_text bytes) (length bytes) (omega (arith, fits))) contents short, tt))))
      (omega (arith, deep))
      (subst IsUtf8 (sym spelled) is_text)
      (manifest_reads (data_of false config_type config_content) (map (data_of noted kind) contents) (sorted_of false config_type config_content) (items (map (sorted_of noted kind) contents))
      (descriptor_reads false config_type (sha256_text config_content) (length config_content) (omega arith))
      (items_read Short (data_of noted kind) (sorted_of noted kind) (λ bytes fits. descriptor_reads noted kind (sha256_text bytes) (length bytes) (omega (arith, fits))) contents short))

  pub plain_read : document_read text ≡ Ok (Image (manifest_with plain_config (map (describing noted kind) contents)))
  plain_read = manifest_read text (sorted_of false config_type config_content) (items (map (sorted_of noted kind) contents)) plain_config (map (describing noted kind) contents) said
      (descriptor_plain false config_type (sha256_text config_content) (length config_content))
      (items_plain (sorted_of noted kind) (λ bytes. descriptor_plain noted kind (sha256_text bytes) (length bytes)) contents)
      (descriptor_is false config_type (sha256_text config_content) (length config_content) (omega arith))
      (items_are Short (sorted_of noted kind) (describing noted kind) (λ bytes fits. descriptor_is noted kind (sha256_text bytes) (length bytes) (omega (arith, fits))) contents short)

-- ---- the two of the shelf

abbrev pub image_manifest : ℕ → OciImageManifest
image_manifest n = manifest_with plain_config (map (describing false layer_type) (layer_contents n))

layer_stays : escape layer_type ≡ layer_type
unfolding escape_byte
layer_stays = refl

pub image_read : (n : ℕ) → n ≤ 2 ^ 32 → document_read (image_text n) ≡ Ok (Image (image_manifest n))
unfolding image_text
image_read n small = plain_read false layer_type layer_stays refl (layer_contents n) (layers_within n small)

abbrev pub signatures_manifest : List ℕ → OciImageManifest
signatures_manifest payload = manifest_with plain_config (describing true payload_type payload ∷ [])

payload_stays : escape payload_type ≡ payload_type
unfolding escape_byte
payload_stays = refl

pub signatures_read : (payload : List ℕ) → length payload ≤ 17000 → document_read (signatures_text payload) ≡ Ok (Image (signatures_manifest payload))
unfolding signatures_text
signatures_read payload short = plain_read true payload_type payload_stays refl (payload ∷ []) (short, tt)
