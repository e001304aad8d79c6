-- The rows of the calls that push manifests and images.
use Rattle.std.specs.Prelude.{ℕ, Bool, true, false, ◌-◌, List, ◌∷◌, ◌++◌, Option, Some, None, Result, Ok, Err}
use Rattle.std.specs.Prelude.{length, map, nat_eq, take, if◌then◌else◌}
use Rattle.std.specs.List.{ends_with}
use Rattle.std.specs.Option.{option_map}
use Rattle.url.specs.Parts.{serialize}
use Rattle.oci_digests.specs.Names.{digest_text}
use Rattle.oci_names.specs.declared.algorithm.Algorithm.TheVariants.{Sha256}
use Rattle.oci_docs.specs.Written.{manifest_text_of}
use Rattle.oci_manifests.specs.declared.descriptor.OciDescriptor.{OciDescriptor}
use Rattle.oci_manifests.specs.Build.{built}
use Rattle.oci_manifests.specs.Document.{content_type_of}
use Rattle.oci_manifests.specs.declared.blob.Config.{Config}
use Rattle.oci_manifests.specs.declared.blob.ImageLayer.{ImageLayer}
use Rattle.oci_manifests.specs.declared.document.OciManifest.{OciManifest}
use Rattle.oci_manifests.specs.declared.document.OciManifest.TheVariants.{Image, ImageIndex}
use Rattle.oci_manifests.specs.declared.index.OciImageIndex.{OciImageIndex}
use Rattle.oci_manifests.specs.declared.manifest.OciImageManifest.{OciImageManifest}
use Rattle.oci_names.specs.Reference.{tag_of}
use Rattle.oci_names.specs.declared.reference.Reference.{Reference}
use Rattle.oci_auth.specs.declared.auth.RegistryAuth.{RegistryAuth}
use Rattle.oci_protocol.specs.Proto.{Done, bind, ◌>>=◌, ◌>>◌}
use Rattle.oci_transport.specs.declared.message.Method.TheVariants.{Put}
use Rattle.engine_terms.specs.Contexts.{Context}
use Rattle.engine_terms.specs.declared.error.OciDistributionError.{OciDistributionError}
use Rattle.engine_terms.specs.declared.error.OciDistributionError.TheVariants as refusal
use Rattle.engine_requests.specs.Addresses.{manifest_name, manifest_text, url_read}
use Rattle.engine_rows.specs.Rows.{Row, store}
use Rattle.push_rows.specs.Calls.{push_blob}
use Rattle.push_rows.specs.Uploads.{sent}
use Rattle.push_rows.specs.declared.content.Content.TheVariants.{Document}
use Rattle.push_rows.specs.declared.responses.PushResponse.{PushResponse}

-- ---- manifests

-- the text before this end, if it has it
abbrev pub before_end : List ℕ → List ℕ → Option (List ℕ)
before_end end text =
    if ends_with nat_eq text end then Some (take (length text - length end) text) else None

-- the manifest's URL by its digest, if the URL of the request ends in the tag, or in `latest` if there is no tag
abbrev pub named_url : List ℕ → Reference → List ℕ → Option (List ℕ)
named_url url image body =
    option_map (λ front. front ++ digest_text Sha256 body) (before_end (manifest_name None (tag_of image)) url)

abbrev pub is_unlocated : OciDistributionError → Bool
is_unlocated refusal.RegistryNoLocationError = true
is_unlocated _ = false

-- that URL, if the response names no location
abbrev pub named_for : OciDistributionError → Option (List ℕ) → Option (List ℕ)
named_for e named = if is_unlocated e then named else None

abbrev pub unless_named : OciDistributionError → Option (List ℕ) → Result (List ℕ) OciDistributionError
unless_named e (Some url) = Ok url
unless_named e None = Err e

-- the location that the response names, or else that URL
abbrev pub or_named : Option (List ℕ) → Result (List ℕ) OciDistributionError → Row (List ℕ)
or_named named (Ok location) = Done (Ok location)
or_named named (Err e) = Done (unless_named e (named_for e named))

-- these bytes, under this content type
unfoldable pub push_manifest_raw : Context → Reference → List ℕ → List ℕ → Row (List ℕ)
push_manifest_raw s image body kind = do
  url ← Done (url_read (manifest_text s.settings image))
  bind (sent s image Put url (Document kind body) 201) (or_named (named_url (serialize url) image body))

-- the text of a document
abbrev pub push_manifest : Context → Reference → OciManifest → Row (List ℕ)
push_manifest s image document =
    push_manifest_raw s image (manifest_text_of document) (content_type_of document)

unfoldable pub push_manifest_list : Context → Reference → RegistryAuth → OciImageIndex → Row (List ℕ)
push_manifest_list s image a index = do
  store image a
  push_manifest s image (ImageIndex index)

-- ---- images

-- the manifest that is passed in, or the one of these layers and this configuration
abbrev pub manifest_for : Option OciImageManifest → List ImageLayer → Config → OciImageManifest
manifest_for (Some manifest) layers config = manifest
manifest_for None layers config = built layers config None

abbrev pub digest_of_entry : OciDescriptor → List ℕ
digest_of_entry entry = entry.digest

abbrev pub digest_of_layer : ImageLayer → List ℕ
digest_of_layer layer = digest_text Sha256 layer.content

-- the digests under which the layers are pushed: the manifest's if it has as many layers, else those of their bytes
abbrev pub digests_for : List OciDescriptor → List ImageLayer → List (List ℕ)
digests_for entries layers =
    if nat_eq (length entries) (length layers) then map digest_of_entry entries else map digest_of_layer layers

-- each layer under its digest, in order
unfoldable pub layers_pushed : Context → Reference → List (List ℕ) → List ImageLayer → Row Unit
layers_pushed s image (digest ∷ digests) (layer ∷ layers) = do
  _ ← push_blob s image layer.content digest
  layers_pushed s image digests layers
layers_pushed s image digests layers = Done (Ok tt)

-- the layers, the configuration, then the manifest
unfoldable pub image_pushed : Context → Reference → List ImageLayer → Config → OciImageManifest → Row PushResponse
image_pushed s image layers config manifest = do
  layers_pushed s image (digests_for manifest.layers layers) layers
  config_url ← push_blob s image config.content manifest.config.digest
  manifest_url ← push_manifest s image (Image manifest)
  Done (Ok (record { config_url = config_url; manifest_url = manifest_url }))

unfoldable pub push : Context → Reference → List ImageLayer → Config → RegistryAuth → Option OciImageManifest
    → Row PushResponse
push s image layers config a given = do
  store image a
  image_pushed s image layers config (manifest_for given layers config)
