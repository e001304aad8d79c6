-- The image of a digest that a signature stands for.
use Rattle.std.specs.Prelude.{ℕ, List, [], ◌∷◌, ◌++◌, Option, Some, None, Result, Ok, Err}
use Rattle.oci_names.specs.declared.reference.Reference.{Reference}
use Rattle.oci_names.specs.Reference.{digest_of, whole_text}
use Rattle.oci_auth.specs.declared.auth.RegistryAuth.{RegistryAuth}
use Rattle.oci_digests.specs.Checks.{checked}
use Rattle.oci_manifests.specs.declared.document.OciManifest.{OciManifest}
use Rattle.oci_manifests.specs.declared.document.OciManifest.TheVariants.{Image, ImageIndex}
use Rattle.oci_manifests.specs.declared.index_entry.ImageIndexEntry.{ImageIndexEntry}
use Rattle.oci_manifests.specs.declared.manifest.OciImageManifest.{OciImageManifest}
use Rattle.oci_manifests.specs.declared.descriptor.OciDescriptor.{OciDescriptor}
use Rattle.oci_manifests.specs.declared.blob.Config.{Config}
use Rattle.oci_manifests.specs.declared.blob.ImageLayer.{ImageLayer}
use Rattle.oci_protocol.specs.Proto.{Done, bind, ◌>>=◌, ◌>>◌}
use Rattle.engine_terms.specs.Contexts.{Context}
use Rattle.engine_terms.specs.declared.error.OciDistributionError.{OciDistributionError}
use Rattle.json_values.specs.Refusals.{◌>>=◌ as ◌before◌, ◌>>◌ as ◌and◌}
use Rattle.engine_answers.specs.Answers.{or_digest_error}
use Rattle.engine_requests.specs.Requests.{manifest_types}
use Rattle.engine_answers.specs.Documents.{document_read}
use Rattle.engine_requests.specs.Sources.{described}
use Rattle.engine_answers.specs.Index.{entry_found, entry_manifest, entry_reference}
use Rattle.engine_rows.specs.Image.{layers_accepted, layers_by, config_of}
use Rattle.registry_calls.specs.declared.error.SigstoreError.{SigstoreError}
use Rattle.registry_calls.specs.declared.error.SigstoreError.TheVariants as sigstore
use Rattle.registry_calls.specs.ErrorContext.{with_error_context}
use Rattle.registry_calls.specs.declared.error_context.Called.TheVariants.{Pull}
use Rattle.registry_calls.specs.Clients.{Row}
use Rattle.registry_calls.specs.Calls.{document_call, blob_call}
use Rattle.cosign_rows.specs.declared.pulled.Pulled.{Pulled}
use Rattle.cosign_rows.specs.declared.pulled.PulledManifest.{PulledManifest}

-- if the requested reference has a digest, it names the document
abbrev pub named_by_reference : Option (List ℕ) → List ℕ → Result Unit OciDistributionError
named_by_reference None bytes = Ok tt
named_by_reference (Some digest) bytes = or_digest_error (checked bytes digest) and Ok tt

-- the document of this reference
abbrev pub document_in : Reference → List ℕ → Result OciManifest OciDistributionError
document_in image bytes = named_by_reference (digest_of image) bytes and document_read bytes

-- the manifest in an entry's document, which must not be an index itself
abbrev pub entry_in : List ℕ → List ℕ → Result OciImageManifest OciDistributionError
entry_in entry bytes = document_read bytes before entry_manifest entry

-- each descriptor's blob, in order
abbrev pub layers_row : Context → Reference → List OciDescriptor → List ImageLayer → Row (List ImageLayer)
layers_row s source = layers_by (λ x. blob_call s source (described x))

-- the configuration and the layers that a manifest names, if the layers' media types are accepted
unfoldable pub blobs_row : Context → Reference → List (List ℕ) → OciImageManifest → Row (Config × List ImageLayer)
blobs_row s source accepted manifest = do
  content ← blob_call s source (described manifest.config)
  Done (with_error_context Pull (whole_text source) (layers_accepted accepted manifest.layers))
  layers ← layers_row s source manifest.layers []
  Done (Ok (config_of manifest content, layers))

-- a refused pull, with the text of this image instead
abbrev pub with_image : List ℕ → {A : Type 0} → Result A SigstoreError → Result A SigstoreError
with_image text (Err (sigstore.RegistryPullError image e)) = Err (sigstore.RegistryPullError text e)
with_image text answer = answer

-- the document of an entry, in the source's repository; an error names the source
unfoldable pub entry_call : Context → Reference → RegistryAuth → List ℕ → Row (List ℕ × List ℕ)
entry_call s source a entry =
    bind (document_call s (entry_reference source entry) a manifest_types)
    (λ r. Done (with_image (whole_text source) r))

-- the manifest of the entry that the settings select
unfoldable pub entry_row : Context → Reference → RegistryAuth → List ImageIndexEntry → Row PulledManifest
entry_row s source a entries = do
  entry ← Done (with_error_context Pull (whole_text source) (entry_found s.settings.platform_resolver entries))
  found ← entry_call s source a entry
  manifest ← Done (with_error_context Pull (whole_text source) (entry_in entry found.0))
  Done (Ok (record { bytes = found.0; manifest = manifest; entry = Some entry }))

-- the document's manifest, or that of an index's entry
abbrev pub manifest_row : Context → Reference → RegistryAuth → List ℕ → OciManifest → Row PulledManifest
manifest_row s source a first (Image manifest) =
    Done (Ok (record { bytes = first; manifest = manifest; entry = None }))
manifest_row s source a first (ImageIndex index) = entry_row s source a index.manifests

-- the manifest of a document, and its blobs
abbrev pub after_document : Context → Reference → Reference → RegistryAuth → List (List ℕ) → List ℕ → Row Pulled
after_document s image source a accepted first = do
  document ← Done (with_error_context Pull (whole_text source) (document_in image first))
  chosen ← manifest_row s source a first document
  blobs ← blobs_row s source accepted chosen.manifest
  Done (Ok (record { first = first; chosen = chosen; config = blobs.0; layers = blobs.1 }))

-- the document of the source's digest, its manifest, and that manifest's blobs
unfoldable pub image_row : Context → Reference → Reference → RegistryAuth → List (List ℕ) → Row Pulled
image_row s image source a accepted = do
  found ← document_call s source a manifest_types
  after_document s image source a accepted found.0
