-- The manifest that is pushed for the signature of an image (cosign's layout of signatures in a registry; for a bundle
-- the OCI image specification, "Image Manifest", with a subject).
use Rattle.std.specs.Prelude.{◌≡◌, ℕ, List, [], ◌∷◌, length, pos, Option, Some, None, codes, unwrap_or}
use Rattle.std.specs.Option.{option_map}
use Rattle.oci_manifests.specs.declared.descriptor.OciDescriptor.{OciDescriptor}
use Rattle.oci_docs.specs.Written.{manifest_text_of}
use Rattle.oci_manifests.specs.Blob.{typed_config, typed_layer}
use Rattle.oci_manifests.specs.Build.{built}
use Rattle.oci_manifests.specs.Document.{content_type_of}
use Rattle.oci_manifests.specs.declared.blob.Config.{Config}
use Rattle.oci_manifests.specs.declared.blob.ImageLayer.{ImageLayer}
use Rattle.oci_manifests.specs.declared.document.OciManifest.{OciManifest}
use Rattle.oci_manifests.specs.declared.document.OciManifest.TheVariants.{Image}
use Rattle.oci_manifests.specs.declared.manifest.OciImageManifest.{OciImageManifest}
use Rattle.cosign_chain.specs.Chain.{IsDocument}
use Rattle.cosign_chain.specs.Documents.{document_in}
use Rattle.cosign_chain.specs.declared.image.VerifiedImage.{VerifiedImage}
use Rattle.cosign_parts.specs.declared.layer.LayerKind.{LayerKind}
use Rattle.cosign_parts.specs.declared.layer.LayerKind.TheVariants.{Payload, Bundle}
use Rattle.cosign_parts.specs.declared.layer.SignatureLayer.{SignatureLayer}

-- ---- the type of a document

abbrev pub oci_manifest_type : List ℕ
oci_manifest_type = codes "application/vnd.oci.image.manifest.v1+json"

-- the content type of the document that these bytes parse as, or OCI's of a manifest if they are none
abbrev pub document_type : List ℕ → List ℕ
document_type bytes = unwrap_or (option_map content_type_of (document_in bytes)) oci_manifest_type

-- the bytes are a document of the supported version, and this type is that document's
pub record IsTyped (bytes : List ℕ) : Type 0 where
  pub document : OciManifest
  pub parses : IsDocument bytes document
  pub type_is : document_type bytes ≡ content_type_of document

-- each document of the image that is pushed has its own content type
abbrev pub AreTyped : VerifiedImage → Type 0
AreTyped v = IsTyped v.first × IsTyped v.manifest_bytes

-- ---- the signature's manifest

abbrev pub type_of_kind : LayerKind → List ℕ
type_of_kind Payload = codes "application/vnd.dev.cosign.simplesigning.v1+json"
type_of_kind Bundle = codes "application/vnd.dev.sigstore.bundle.v0.3+json"

-- the layer as it was pulled: its bytes and its annotations
abbrev pub signature_layer : SignatureLayer → ImageLayer
signature_layer l = typed_layer (type_of_kind l.kind) l.content (Some l.annotations)

abbrev pub empty_config : Config
empty_config = typed_config (codes "application/vnd.oci.image.config.v1+json") (codes "{}") None

-- the manifest of the one layer
abbrev pub layer_manifest : SignatureLayer → OciImageManifest
layer_manifest l = record (built (signature_layer l ∷ []) empty_config None) { media_type = Some oci_manifest_type }

-- the document that the signature is about
abbrev pub subject_of : (digest first : List ℕ) → OciDescriptor
subject_of digest first = record {
  media_type = document_type first;
  digest = digest;
  size = pos (length first);
  urls = None;
  annotations = None;
  artifact_type = None;
}

-- a bundle is found by its subject, a payload by its tag
abbrev pub manifest_by : LayerKind → SignatureLayer → OciDescriptor → OciImageManifest
manifest_by Payload l subject = layer_manifest l
manifest_by Bundle l subject = record (layer_manifest l) {
  artifact_type = Some (type_of_kind Bundle);
  subject = Some subject;
}

abbrev pub signature_manifest : SignatureLayer → (digest first : List ℕ) → OciImageManifest
signature_manifest l digest first = manifest_by l.kind l (subject_of digest first)

-- its text
abbrev pub signature_text : SignatureLayer → (digest first : List ℕ) → List ℕ
signature_text l digest first = manifest_text_of (Image (signature_manifest l digest first))
