-- A whole image: its manifest, its configuration and its layers in the manifest's order.
use Rattle.std.specs.Prelude.{ℕ, Bool, true, false, List, [], ◌∷◌, ◌++◌, Some, Result, Ok, Err, if◌then◌else◌, bytes_eq}
use Rattle.oci_names.specs.declared.reference.Reference.{Reference}
use Rattle.oci_auth.specs.declared.auth.RegistryAuth.{RegistryAuth}
use Rattle.oci_manifests.specs.declared.document.OciManifest.{OciManifest}
use Rattle.oci_manifests.specs.declared.document.OciManifest.TheVariants.{Image, ImageIndex}
use Rattle.oci_manifests.specs.declared.manifest.OciImageManifest.{OciImageManifest}
use Rattle.oci_manifests.specs.declared.descriptor.OciDescriptor.{OciDescriptor}
use Rattle.oci_manifests.specs.declared.blob.ImageLayer.{ImageLayer}
use Rattle.oci_manifests.specs.declared.blob.Config.{Config}
use Rattle.oci_protocol.specs.Proto.{Proto, Done, ◌>>=◌, ◌>>◌}
use Rattle.engine_terms.specs.Contexts.{Context}
use Rattle.engine_requests.specs.Sources.{described}
use Rattle.engine_terms.specs.declared.error.OciDistributionError.{OciDistributionError}
use Rattle.engine_terms.specs.declared.error.OciDistributionError.TheVariants as refusal
use Rattle.engine_rows.specs.Rows.{Row}
use Rattle.engine_rows.specs.declared.image.ImageData.{ImageData}
use Rattle.engine_rows.specs.Manifests.{pull_image_manifest_and_list_digest}
use Rattle.engine_rows.specs.Pulls.{held_blob}

-- the manifest of an image; an index is refused
abbrev pub image_manifest : OciManifest → Result OciImageManifest OciDistributionError
image_manifest (Image manifest) = Ok manifest
image_manifest (ImageIndex index) = Err refusal.ImageIndexParsingNoPlatformResolverError

abbrev pub is_accepted : List (List ℕ) → List ℕ → Bool
is_accepted [] kind = false
is_accepted (a ∷ accepted) kind = if bytes_eq a kind then true else is_accepted accepted kind

-- each layer's media type is accepted
abbrev pub all_accepted : List (List ℕ) → List OciDescriptor → Result Unit OciDistributionError
all_accepted accepted [] = Ok tt
all_accepted accepted (x ∷ xs) = if is_accepted accepted x.media_type then all_accepted accepted xs else Err
    (refusal.IncompatibleLayerMediaTypeError x.media_type)

-- there is at least one layer, and each one's media type is accepted
abbrev pub layers_accepted : List (List ℕ) → List OciDescriptor → Result Unit OciDistributionError
layers_accepted accepted [] = Err refusal.PullNoLayersError
layers_accepted accepted (x ∷ xs) = all_accepted accepted (x ∷ xs)

-- a descriptor's blob as a layer
abbrev pub layer_of : OciDescriptor → List ℕ → ImageLayer
layer_of x content = record { content = content; media_type = x.media_type; annotations = x.annotations }

-- a manifest's configuration
abbrev pub config_of : OciImageManifest → List ℕ → Config
config_of manifest content = record {
  content = content;
  media_type = manifest.config.media_type;
  annotations =
      manifest.annotations;
}

-- each descriptor's blob by this call, in order, behind these layers
unfoldable pub layers_by : {K E : Type 0} → (OciDescriptor → Proto K (Result (List ℕ) E)) → List OciDescriptor → List ImageLayer
    → Proto K (Result (List ImageLayer) E)
layers_by blob [] layers = Done (Ok layers)
layers_by blob (x ∷ xs) layers = do
  content ← blob x
  layers_by blob xs (layers ++ layer_of x content ∷ [])

-- each descriptor's blob, held in memory
abbrev pub pull_layers : Context → Reference → List OciDescriptor → List ImageLayer → Row (List ImageLayer)
pull_layers s image = layers_by (λ x. held_blob s image (described x))

-- an image whose layers are of these types
unfoldable pub pull : Context → Reference → RegistryAuth → List (List ℕ) → Row ImageData
pull s image a accepted = do
  found ← pull_image_manifest_and_list_digest s image a
  config ← held_blob s image (described found.0.config)
  Done (layers_accepted accepted found.0.layers)
  layers ← pull_layers s image found.0.layers []
  Done (Ok (record {
    layers = layers;
    digest = Some found.1;
    config = config_of found.0 config;
    manifest =
        Some found.0;
  }))
