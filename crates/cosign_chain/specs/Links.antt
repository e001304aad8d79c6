-- The links of a chain that depend on documents and blobs alone: no JSON is parsed, and no signature is checked.
use Rattle.std.specs.Prelude.{◌≡◌, ◌<◌, ℕ, Bool, true, false, ◌&&◌, List, bytes_eq, ◌==◌, nat_lt, length, Option, Some}
use Rattle.std.specs.Prelude.{None}
use Rattle.std.specs.List.{list_any, list_all, zip}
use Rattle.std.specs.Cmp.Lexicographic.{pointwise}
use Rattle.std.specs.FinMap.{FinMap, entries}
use Rattle.json_values.specs.Places.{by_bytes}
use Rattle.oci_names.specs.declared.reference.Reference.{Reference}
use Rattle.oci_names.specs.Reference.{digest_of}
use Rattle.oci_digests.specs.Names.{Names, names}
use Rattle.oci_manifests.specs.declared.manifest.OciImageManifest.{OciImageManifest}
use Rattle.oci_manifests.specs.declared.descriptor.OciDescriptor.{OciDescriptor}
use Rattle.oci_manifests.specs.declared.blob.ImageLayer.{ImageLayer}
use Rattle.oci_manifests.specs.declared.blob.Config.{Config}
use Rattle.cosign_chain.specs.Chain.{ConfigLinks, LayersLink}
use Rattle.cosign_chain.specs.declared.image.VerifiedImage.{VerifiedImage}

-- without an index the first document is the manifest; with one the digest is the index's
abbrev pub ManifestLinks : VerifiedImage → Option (List ℕ) → Type 0
ManifestLinks v None = (v.manifest_bytes ≡ v.first) × (v.manifest_digest ≡ v.digest)
ManifestLinks v (Some digest) = (digest ≡ v.digest) × Names v.manifest_digest v.manifest_bytes

-- The digest names the first document, as the requested digest does if there is one. The manifest's digest names its
-- bytes, and the manifest's descriptors name the configuration and the layers, of which there is at least one.
pub record Links (image : Reference) (accepted : List (List ℕ)) (v : VerifiedImage) : Type 0 where
  pub named : Names v.digest v.first
  pub asked : (digest : List ℕ) → digest_of image ≡ Some digest → Names digest v.first
  pub manifest : ManifestLinks v v.list_digest
  pub config : ConfigLinks v.manifest v.config
  pub some : 0 < length v.layers
  pub layers : LayersLink accepted v.manifest.layers v.layers

-- ---- the links as tests

-- a digest, if there is one, names the bytes
abbrev pub named_by : Option (List ℕ) → List ℕ → Bool
named_by None bytes = true
named_by (Some digest) bytes = names digest bytes

-- the same names with the same strings, or no annotations in both
abbrev pub same_annotations : Option (FinMap by_bytes (List ℕ)) → Option (FinMap by_bytes (List ℕ)) → Bool
same_annotations None None = true
same_annotations None (Some b) = false
same_annotations (Some a) None = false
same_annotations (Some a) (Some b) =
    pointwise (λ p q. bytes_eq p.0 q.0 && bytes_eq p.1 q.1) (entries a) (entries b)

abbrev pub has_manifest : VerifiedImage → Option (List ℕ) → Bool
has_manifest v None = bytes_eq v.manifest_bytes v.first && bytes_eq v.manifest_digest v.digest
has_manifest v (Some digest) = bytes_eq digest v.digest && names v.manifest_digest v.manifest_bytes

abbrev pub has_config : OciImageManifest → Config → Bool
has_config manifest config =
    names manifest.config.digest config.content && bytes_eq config.media_type manifest.config.media_type
    && same_annotations config.annotations manifest.annotations

abbrev pub is_layer_of : List (List ℕ) → OciDescriptor → ImageLayer → Bool
is_layer_of accepted x layer =
    names x.digest layer.content && bytes_eq layer.media_type x.media_type
    && same_annotations layer.annotations x.annotations && list_any (bytes_eq layer.media_type) accepted

-- one layer for each descriptor, in order
abbrev pub has_layers : List (List ℕ) → List OciDescriptor → List ImageLayer → Bool
has_layers accepted xs layers =
    length xs == length layers && list_all (λ p. is_layer_of accepted p.0 p.1) (zip xs layers)

abbrev pub is_linked : Reference → List (List ℕ) → VerifiedImage → Bool
is_linked image accepted v =
    names v.digest v.first && named_by (digest_of image) v.first && has_manifest v v.list_digest
    && has_config v.manifest v.config && nat_lt 0 (length v.layers)
    && has_layers accepted v.manifest.layers v.layers
