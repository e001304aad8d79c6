-- A chain of digests that can be checked again on its own: its definition mentions no request.
use Rattle.std.specs.Prelude.{◌≡◌, ◌<◌, ◌⊎◌, ℕ, List, [], ◌∷◌, length, Option, Some, None, Contains}
use Rattle.serde_json.specs.Data.{Data}
use Rattle.json_values.specs.JsonText.{json_of}
use Rattle.oci_names.specs.declared.reference.Reference.{Reference}
use Rattle.oci_names.specs.Reference.{digest_of}
use Rattle.oci_digests.specs.Names.{Names}
use Rattle.oci_manifests.specs.Document.{document_of}
use Rattle.oci_manifests.specs.Versioned.{IsVersioned}
use Rattle.oci_manifests.specs.declared.document.OciManifest.{OciManifest}
use Rattle.oci_manifests.specs.declared.document.OciManifest.TheVariants.{Image, ImageIndex}
use Rattle.oci_manifests.specs.declared.index.OciImageIndex.{OciImageIndex}
use Rattle.oci_manifests.specs.declared.manifest.OciImageManifest.{OciImageManifest}
use Rattle.oci_manifests.specs.declared.descriptor.OciDescriptor.{OciDescriptor}
use Rattle.oci_manifests.specs.declared.blob.ImageLayer.{ImageLayer}
use Rattle.oci_manifests.specs.declared.blob.Config.{Config}
use Rattle.oci_manifests.specs.Promise.{Picks}
use Rattle.oci_manifests.specs.declared.promise.ResolverPromise.{ResolverPromise}
use Rattle.cosign_layers.specs.Satisfying.{PolicyContext, StandsFor}
use Rattle.cosign_chain.specs.declared.image.VerifiedImage.{VerifiedImage}

-- the bytes are JSON of the supported version, and parse as this document and as no other
pub record IsDocument (bytes : List ℕ) (document : OciManifest) : Type 0 where
  pub value : Data
  pub json : json_of bytes ≡ Some value
  pub versioned : IsVersioned value
  pub reads : document_of value ≡ Some document

abbrev pub ReadsAs : List ℕ → OciImageManifest → Type 0
ReadsAs bytes manifest = IsDocument bytes (Image manifest)

-- the first document is the manifest
pub record FirstIsManifest (v : VerifiedImage) : Type 0 where
  pub reads : ReadsAs v.first v.manifest
  pub bytes : v.manifest_bytes ≡ v.first
  pub digest : v.manifest_digest ≡ v.digest
  pub no_list : v.list_digest ≡ None

-- the first document is an index, of whose entries the promise picks the manifest's digest
pub record FirstIsIndex (promise : ResolverPromise) (v : VerifiedImage) : Type 0 where
  pub index : OciImageIndex
  pub indexed : IsDocument v.first (ImageIndex index)
  pub picked : Picks promise index.manifests v.manifest_digest
  pub named : Names v.manifest_digest v.manifest_bytes
  pub reads : ReadsAs v.manifest_bytes v.manifest
  pub list : v.list_digest ≡ Some v.digest

-- the first document leads to the manifest; an index does so only with a promise
abbrev pub LeadsToManifest : Option ResolverPromise → VerifiedImage → Type 0
LeadsToManifest None v = FirstIsManifest v
LeadsToManifest (Some promise) v = FirstIsManifest v ⊎ FirstIsIndex promise v

-- the configuration is the one that the manifest names
pub record ConfigLinks (manifest : OciImageManifest) (config : Config) : Type 0 where
  pub named : Names manifest.config.digest config.content
  pub media_type : config.media_type ≡ manifest.config.media_type
  pub annotations : config.annotations ≡ manifest.annotations

-- the layer is the one that the descriptor names, and its media type is accepted
pub record LayerLinks (accepted : List (List ℕ)) (x : OciDescriptor) (layer : ImageLayer) : Type 0 where
  pub named : Names x.digest layer.content
  pub media_type : layer.media_type ≡ x.media_type
  pub annotations : layer.annotations ≡ x.annotations
  pub allowed : Contains accepted layer.media_type

-- one layer for each descriptor, in order
abbrev pub LayersLink : List (List ℕ) → List OciDescriptor → List ImageLayer → Type 0
LayersLink accepted [] [] = Unit {0}
LayersLink accepted [] (layer ∷ layers) = ⊥
LayersLink accepted (x ∷ xs) [] = ⊥
LayersLink accepted (x ∷ xs) (layer ∷ layers) = LayerLinks accepted x layer × LayersLink accepted xs layers

-- The digest names the first document, as the requested digest does if there is one. The document is the manifest or
-- leads to it, and the manifest's digests name the configuration and the layers, of which there is at least one; and a
-- signature layer stands for the digest.
pub record Chain {V : Type 0} {H : V → Type 0} (policy_context : PolicyContext V H) (image : Reference)
    (accepted : List (List ℕ))
    (promise : Option ResolverPromise) (v : VerifiedImage) : Type 0 where
  pub named : Names v.digest v.first
  pub asked : (digest : List ℕ) → digest_of image ≡ Some digest → Names digest v.first
  pub manifest : LeadsToManifest promise v
  pub config : ConfigLinks v.manifest v.config
  pub some : 0 < length v.layers
  pub layers : LayersLink accepted v.manifest.layers v.layers
  pub signature : StandsFor policy_context v.digest v.signature
