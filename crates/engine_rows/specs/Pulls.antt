-- The calls that pull documents and blobs, each as the requests that it makes and its result (OCI distribution
-- specification, "Pull").
use Rattle.std.specs.Prelude.{ℕ, List, Ok}
use Rattle.url.specs.Parts.{Parts}
use Rattle.oci_transport.specs.declared.message.Method.TheVariants.{Get, Head}
use Rattle.oci_names.specs.declared.reference.Reference.{Reference}
use Rattle.oci_names.specs.Reference.{digest_of}
use Rattle.oci_auth.specs.declared.auth.RegistryAuth.{RegistryAuth}
use Rattle.oci_auth.specs.declared.token_type.RegistryOperation.TheVariants.{Pull}
use Rattle.oci_manifests.specs.declared.document.OciManifest.{OciManifest}
use Rattle.oci_protocol.specs.Proto.{Done, ◌>>=◌, ◌>>◌}
use Rattle.engine_terms.specs.Contexts.{Context}
use Rattle.engine_requests.specs.Addresses.{manifest_text, blob_text, url_read}
use Rattle.engine_requests.specs.Requests.{manifest_types}
use Rattle.engine_answers.specs.Answers.{accepted, document_in, fits_reference}
use Rattle.engine_answers.specs.Documents.{document_read}
use Rattle.engine_requests.specs.Sources.{Layer, places_of}
use Rattle.engine_rows.specs.declared.named.NamedAnswer.{NamedAnswer}
use Rattle.engine_rows.specs.declared.named.NamedAnswer.TheVariants.{ByHeader, Unnamed}
use Rattle.engine_rows.specs.Rows.{Row, store, whole, named_after, prepared}
use Rattle.engine_rows.specs.Blobs.{Destination, IntoSink, IntoMemory}
use Rattle.engine_rows.specs.Offers.{tried}

-- a document's bytes with their digest
unfoldable pub document : Context → Reference → Parts → List ℕ → Row (List ℕ × List ℕ)
document s image url types = do
  request ← prepared s image Pull Get url types
  got ← whole 10 request s.settings.max_body_bytes
  Done (document_in image got)

-- the bytes of a manifest or an index, with their digest
unfoldable pub manifest_document : Context → Reference → List ℕ → Row (List ℕ × List ℕ)
manifest_document s image types = do
  url ← Done (url_read (manifest_text s.settings image))
  document s image url types

-- the same, with credentials that are passed in
unfoldable pub pull_manifest_raw : Context → Reference → RegistryAuth → List ℕ → Row (List ℕ × List ℕ)
pull_manifest_raw s image a types = do
  store image a
  manifest_document s image types

-- the digest that the response's header names, else that of the document
abbrev pub digest_by : Context → Reference → Parts → NamedAnswer → Row (List ℕ)
digest_by s image url (ByHeader digest got) = do
  Done (accepted 200 got.url got.answer)
  Done (fits_reference digest (digest_of image))
digest_by s image url Unnamed = do
  found ← document s image url manifest_types
  Done (Ok found.1)

-- the digest of a manifest or an index
unfoldable pub fetch_manifest_digest : Context → Reference → RegistryAuth → Row (List ℕ)
fetch_manifest_digest s image a = do
  store image a
  url ← Done (url_read (manifest_text s.settings image))
  request ← prepared s image Pull Head url manifest_types
  named ← named_after 10 request s.settings.max_body_bytes
  digest_by s image url named

-- a manifest or an index, with its digest
unfoldable pub pull_manifest : Context → Reference → RegistryAuth → Row (OciManifest × List ℕ)
pull_manifest s image a = do
  found ← pull_manifest_raw s image a manifest_types
  document ← Done (document_read found.0)
  Done (Ok (document, found.1))

-- the same, if credentials are already stored
unfoldable pub manifest_asked : Context → Reference → Row (OciManifest × List ℕ)
manifest_asked s image = do
  found ← manifest_document s image manifest_types
  document ← Done (document_read found.0)
  Done (Ok (document, found.1))

-- the bytes of a blob, which its digest names: from the registry, or else from the URLs of its descriptor
unfoldable pub blob_to : Destination → Context → Reference → Layer → Row (List ℕ)
blob_to to s image layer = do
  url ← Done (url_read (blob_text s.settings image layer.digest))
  request ← prepared s image Pull Get url manifest_types
  tried to s.settings layer.digest (places_of layer.urls) request

-- a blob that is written to a sink
abbrev pub pull_blob : Context → Reference → Layer → Row (List ℕ)
pull_blob = blob_to IntoSink

-- a blob that is held in memory
abbrev pub held_blob : Context → Reference → Layer → Row (List ℕ)
held_blob = blob_to IntoMemory
