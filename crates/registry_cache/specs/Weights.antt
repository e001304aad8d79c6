-- The weight of cached responses in bytes: the lengths of their texts, of their keys, and of the contents of
-- configurations and layers, plus 32 for each of these for its container. Numbers are not counted.
use Rattle.std.specs.Prelude.{ℕ, ◌+◌, ◌-◌, ◌^◌, min, List, [], ◌∷◌, length, Option}
use Rattle.std.specs.FinMap.{FinMap, entries}
use Rattle.std.specs.List.{sum_by}
use Rattle.std.specs.Option.{option_map_or}
use Rattle.json_values.specs.Places.{by_bytes}
use Rattle.oci_manifests.specs.declared.blob.Config.{Config}
use Rattle.oci_manifests.specs.declared.blob.ImageLayer.{ImageLayer}
use Rattle.oci_manifests.specs.declared.descriptor.OciDescriptor.{OciDescriptor}
use Rattle.oci_manifests.specs.declared.document.OciManifest.{OciManifest}
use Rattle.oci_manifests.specs.declared.document.OciManifest.TheVariants as document
use Rattle.oci_manifests.specs.declared.index.OciImageIndex.{OciImageIndex}
use Rattle.oci_manifests.specs.declared.index_entry.ImageIndexEntry.{ImageIndexEntry}
use Rattle.oci_manifests.specs.declared.manifest.OciImageManifest.{OciImageManifest}
use Rattle.oci_manifests.specs.declared.platform.Platform.{Platform}
use Rattle.engine_rows.specs.declared.image.ImageData.{ImageData}
use Rattle.registry_cache.specs.declared.answer.Answer.{Answer}
use Rattle.registry_cache.specs.declared.answer.Answer.TheVariants.{Digest, Manifest, Image, Referrers}
use Rattle.registry_cache.specs.declared.answers.Entry.{Entry}

abbrev pub sum_of : List ℕ → ℕ
sum_of [] = 0
sum_of (w ∷ ws) = w + sum_of ws

-- a text or other bytes
abbrev pub text_weight : List ℕ → ℕ
text_weight text = length text + 32

abbrev pub optional_weight : {X : Type 0} → (X → ℕ) → Option X → ℕ
optional_weight f x = option_map_or f x 0

abbrev pub list_weight : {X : Type 0} → (X → ℕ) → List X → ℕ
list_weight f xs = sum_by f xs

abbrev pub pair_weight : List ℕ × List ℕ → ℕ
pair_weight pair = sum_of (text_weight pair.0 ∷ text_weight pair.1 ∷ [])

abbrev pub annotations_weight : FinMap by_bytes (List ℕ) → ℕ
annotations_weight annotations = list_weight pair_weight (entries annotations)

-- ---- documents

abbrev pub descriptor_weight : OciDescriptor → ℕ
descriptor_weight d = sum_of (
    text_weight d.media_type ∷ text_weight d.digest ∷ optional_weight (list_weight text_weight) d.urls
    ∷ optional_weight annotations_weight d.annotations ∷ optional_weight text_weight d.artifact_type ∷ [])

abbrev pub manifest_weight : OciImageManifest → ℕ
manifest_weight m = sum_of (
    optional_weight text_weight m.media_type ∷ descriptor_weight m.config ∷ list_weight descriptor_weight m.layers
    ∷ optional_weight descriptor_weight m.subject ∷ optional_weight text_weight m.artifact_type
    ∷ optional_weight annotations_weight m.annotations ∷ [])

abbrev pub platform_weight : Platform → ℕ
platform_weight p = sum_of (
    text_weight p.architecture ∷ text_weight p.os ∷ optional_weight text_weight p.os_version
    ∷ optional_weight (list_weight text_weight) p.os_features ∷ optional_weight text_weight p.variant
    ∷ optional_weight (list_weight text_weight) p.features ∷ [])

abbrev pub index_entry_weight : ImageIndexEntry → ℕ
index_entry_weight e = sum_of (
    text_weight e.media_type ∷ text_weight e.digest ∷ optional_weight platform_weight e.platform
    ∷ optional_weight annotations_weight e.annotations ∷ optional_weight text_weight e.artifact_type ∷ [])

abbrev pub index_weight : OciImageIndex → ℕ
index_weight x = sum_of (
    optional_weight text_weight x.media_type ∷ list_weight index_entry_weight x.manifests
    ∷ optional_weight text_weight x.artifact_type ∷ optional_weight annotations_weight x.annotations ∷ [])

abbrev pub document_weight : OciManifest → ℕ
document_weight (document.Image manifest) = manifest_weight manifest
document_weight (document.ImageIndex index) = index_weight index

-- ---- images

abbrev pub layer_weight : ImageLayer → ℕ
layer_weight l = sum_of (
    text_weight l.content ∷ text_weight l.media_type ∷ optional_weight annotations_weight l.annotations ∷ [])

abbrev pub config_weight : Config → ℕ
config_weight c = sum_of (
    text_weight c.content ∷ text_weight c.media_type ∷ optional_weight annotations_weight c.annotations ∷ [])

abbrev pub image_weight : ImageData → ℕ
image_weight i = sum_of (
    list_weight layer_weight i.layers ∷ optional_weight text_weight i.digest ∷ config_weight i.config
    ∷ optional_weight manifest_weight i.manifest ∷ [])

-- ---- cached responses

abbrev pub answer_weight : Answer → ℕ
answer_weight (Digest digest) = text_weight digest
answer_weight (Manifest document digest) = sum_of (document_weight document ∷ text_weight digest ∷ [])
answer_weight (Image image) = image_weight image
answer_weight (Referrers index) = index_weight index

abbrev pub entry_weight : Entry → ℕ
entry_weight e = sum_of (text_weight e.key ∷ answer_weight e.answer ∷ [])

abbrev pub weight : List Entry → ℕ
weight es = list_weight entry_weight es

-- a weight as the code counts it: saturating at 128 bits
abbrev pub counted : ℕ → ℕ
counted w = min w (2 ^ 128 - 1)
