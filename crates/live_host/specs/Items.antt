-- The frames that an image, and its documents alone, are sent as.
use Rattle.std.specs.Prelude.{◌≡◌, ℕ, Bool, true, false, List, [], ◌∷◌, ◌++◌, length, Option, Some, None, codes}
use Rattle.std.specs.Prelude.{unwrap_or}
use Rattle.serde_json.specs.Data.{Data}
use Rattle.json_values.specs.JsonText.{plain_json_of}
use Rattle.json_tables.specs.Reading.{◌>>=◌}
use Rattle.json_tables.specs.Paths.{text_at}
use Rattle.oci_manifests.specs.declared.blob.ImageLayer.{ImageLayer}
use Rattle.oci_manifests.specs.declared.descriptor.OciDescriptor.{OciDescriptor}
use Rattle.cosign_parts.specs.declared.layer.SignatureLayer.{SignatureLayer}
use Rattle.cosign_chain.specs.declared.image.VerifiedImage.{VerifiedImage}
use Rattle.cosign_chain.specs.declared.verified_documents.VerifiedDocuments.{VerifiedDocuments}
use Rattle.live_host.specs.Heads.{item_head, kind_name, pulled_head, signature_head}
use Rattle.live_host.specs.Wire.{Wire, SendsFrame}

-- a frame: its line and the bytes after it
abbrev pub Sent : Type 0
Sent = Data × List ℕ

-- these frames were sent, one after another
abbrev pub WereTold : List Sent → Wire → Wire → Type 0
WereTold [] old new = old ≡ new
WereTold (frame ∷ more) old new = (between : Wire) × SendsFrame frame.0 frame.1 old between × WereTold more between new

-- bytes of an image with their kind, their media type and their digest
abbrev pub item : List ℕ → List ℕ → List ℕ → List ℕ → List ℕ → Sent
item frame kind media_type digest bytes = (item_head frame kind media_type digest (length bytes), bytes)

-- the media type in a document, or the default
abbrev pub media_type_of : List ℕ → List ℕ → List ℕ
media_type_of usual bytes = unwrap_or (plain_json_of bytes >>= text_at (codes "mediaType" ∷ [])) usual

abbrev pub index_type : List ℕ
index_type = codes "application/vnd.oci.image.index.v1+json"

abbrev pub manifest_type : List ℕ
manifest_type = codes "application/vnd.oci.image.manifest.v1+json"

-- the name of a document's frame
abbrev pub codes_document : List ℕ
codes_document = codes "document"

-- a document under its digest
abbrev pub document : List ℕ → List ℕ → List ℕ → List ℕ → Sent
document kind usual digest bytes = item (codes "document") kind (media_type_of usual bytes) digest bytes

-- the index, if one led to the manifest
abbrev pub index_sent : Option (List ℕ) → List ℕ → List Sent
index_sent None bytes = []
index_sent (Some digest) bytes = document (codes "index") index_type digest bytes ∷ []

abbrev pub manifest_sent : List ℕ → List ℕ → Sent
manifest_sent digest bytes = document (codes "manifest") manifest_type digest bytes

abbrev pub config_sent : VerifiedImage → Sent
config_sent v = item (codes "blob") (codes "config") v.config.media_type v.manifest.config.digest v.config.content

-- each layer under the digest of its descriptor
abbrev pub layers_sent : List OciDescriptor → List ImageLayer → List Sent
layers_sent (x ∷ xs) (layer ∷ layers) =
    item (codes "blob") (codes "layer") layer.media_type x.digest layer.content ∷ layers_sent xs layers
layers_sent [] layers = []
layers_sent xs [] = []

-- the layers, if blobs are requested
abbrev pub blobs_sent : Bool → VerifiedImage → List Sent
blobs_sent true v = layers_sent v.manifest.layers v.layers
blobs_sent false v = []

-- the end of an image
abbrev pub pulled_sent : VerifiedImage → Sent
pulled_sent v = (pulled_head v.digest v.manifest_digest v.signature.oci_digest, [])

-- the documents, the configuration, the layers, and the end
abbrev pub image_sent : Bool → VerifiedImage → List Sent
image_sent blobs v =
    index_sent v.list_digest v.first ++ manifest_sent v.manifest_digest v.manifest_bytes ∷ config_sent v
    ∷ (blobs_sent blobs v ++ pulled_sent v ∷ [])

-- ---- documents alone

-- the content of a signature layer, with its form, its digest and its annotations
abbrev pub signature_sent : SignatureLayer → Sent
signature_sent layer =
    (signature_head (kind_name layer.kind) layer.oci_digest layer.annotations (length layer.content), layer.content)

-- the index if one led to the manifest, the manifest, and the signature layer that stands for the digest
abbrev pub documents_sent : VerifiedDocuments → List Sent
documents_sent d =
    index_sent d.list_digest d.first ++ manifest_sent d.manifest_digest d.manifest_bytes ∷ signature_sent d.signature
    ∷ []

-- the end of documents
abbrev pub decided_sent : VerifiedDocuments → Sent
decided_sent d = (pulled_head d.digest d.manifest_digest d.signature.oci_digest, [])
