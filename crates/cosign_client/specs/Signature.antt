-- What is pushed for signature layers: cosign's simple signing payloads in an image.
use Rattle.std.specs.Prelude.{◌≡◌, ◌≤◌, ℕ, List, [], ◌∷◌, Option, Some, None, IsUtf8, codes, false, flat_map, Ok}
use Rattle.std.specs.FinMap.{insert, empty}
use Rattle.base64.specs.Engines.{standard}
use Rattle.base64.specs.GeneralPurpose.{decoded_of}
use Rattle.json.specs.Lex.{tokens}
use Rattle.json.specs.Print.{print}
use Rattle.serde_json.specs.Data.{Data, string, depth}
use Rattle.serde_json.specs.Read.{read, max_depth}
use Rattle.serde_json.specs.Written.{has_float, compact_text, IsInOrder}
use Rattle.json_tables.specs.Fields.{fields}
use Rattle.oci_digests.specs.Names.{digest_text}
use Rattle.oci_names.specs.declared.algorithm.Algorithm.TheVariants.{Sha256}
use Rattle.oci_manifests.specs.Blob.{typed_config}
use Rattle.oci_manifests.specs.Build.{built}
use Rattle.oci_manifests.specs.declared.blob.Config.{Config}
use Rattle.oci_manifests.specs.declared.blob.ImageLayer.{ImageLayer}
use Rattle.oci_manifests.specs.declared.manifest.OciImageManifest.{OciImageManifest}
use Rattle.cosign_parts.specs.Shown.{Notes}
use Rattle.cosign_parts.specs.Trust.{Trust}
use Rattle.cosign_parts.specs.declared.layer.LayerKind.TheVariants as kinds
use Rattle.cosign_parts.specs.declared.layer.SignatureLayer.{SignatureLayer}
use Rattle.cosign_parts.specs.declared.layer.SimpleSigning.{SimpleSigning}
use Rattle.cosign_layers.specs.Checks.{input, layer_read}
use Rattle.cosign_client.specs.declared.signature.SignatureImage.{SignatureImage}

-- ---- a payload

abbrev pub identity_written : List ℕ → Data
identity_written reference = fields ((codes "docker-reference", Some (string reference)) ∷ [])

abbrev pub image_written : List ℕ → Data
image_written digest = fields ((codes "docker-manifest-digest", Some (string digest)) ∷ [])

abbrev pub critical_written : SimpleSigning → Data
critical_written s = fields (
    (codes "identity", Some (identity_written s.docker_reference))
    ∷ (codes "image", Some (image_written s.docker_manifest_digest))
    ∷ (codes "type", Some (string (codes "cosign container image signature")))
    ∷ [])

abbrev pub payload_written : SimpleSigning → Data
payload_written s = fields (
    (codes "critical", Some (critical_written s))
    ∷ (codes "optional", Some s.optional)
    ∷ [])

-- JSON text of the payload without spaces: its members in order. It reads back, unless it nests too deep.
pub record IsPayloadText (s : SimpleSigning) (text : List ℕ) : Type 0 where
  -- of a payload without floats there is one such text
  pub exact : has_float (payload_written s) ≡ false → text ≡ compact_text (payload_written s)
  pub spaceless : text ≡ print (tokens text)
  pub ordered : IsInOrder text (payload_written s)
  pub utf8 : IsUtf8 text
  pub reads_back : depth (payload_written s) ≤ max_depth → read text ≡ Some (payload_written s)

-- ---- its layer

-- a payload with its signature
abbrev pub Signed : Type 0
Signed = SimpleSigning × List ℕ

-- the one annotation
abbrev pub signature_notes : List ℕ → Notes
signature_notes signature = insert empty (codes "dev.cosignproject.cosign/signature") signature

-- the layer has the text of the payload, and no annotation but its signature
pub record IsLayerFor (signed : Signed) (image : ImageLayer) : Type 0 where
  pub content : IsPayloadText signed.0 image.content
  pub media_type : image.media_type ≡ codes "application/vnd.dev.cosign.simplesigning.v1+json"
  pub annotations : image.annotations ≡ Some (signature_notes signed.1)

-- a layer for each payload, in order
abbrev pub AreLayersFor : List Signed → List ImageLayer → Type 0
AreLayersFor [] [] = Unit {0}
AreLayersFor (s ∷ ss) (image ∷ images) = IsLayerFor s image × AreLayersFor ss images
AreLayersFor _ _ = ⊥

abbrev pub signed_with : List ℕ → Option SimpleSigning → List Signed
signed_with signature None = []
signed_with signature (Some signing) = (signing, signature) ∷ []

-- the payload of a layer, if it has one
abbrev pub signed_in : SignatureLayer → List Signed
signed_in layer = signed_with layer.signature layer.simple_signing

-- the payloads of the layers that have one
abbrev pub all_signed : List SignatureLayer → List Signed
all_signed layers = flat_map signed_in layers

-- ---- the image

abbrev pub signature_config : Config
signature_config = typed_config (codes "application/vnd.oci.image.config.v1+json") (codes "{}") None

abbrev pub signature_manifest : List ImageLayer → Option Notes → OciImageManifest
signature_manifest images annotations = record (built images signature_config annotations) {
  media_type = Some (codes "application/vnd.oci.image.manifest.v1+json");
}

-- the image of these signature layers, with these annotations of its manifest
pub record IsSignatureImage (found : List SignatureLayer) (annotations : Option Notes) (image : SignatureImage)
    : Type 0 where
  pub layers : AreLayersFor (all_signed found) image.layers
  pub config : image.config ≡ signature_config
  pub manifest : image.manifest ≡ signature_manifest image.layers annotations

-- ---- where it is found

-- the text of the payload reads back without floats, and the signature decodes (padded standard base64; RFC 4648, 4)
pub record CanBeRead (signed : Signed) : Type 0 where
  pub plain : has_float signed.0.optional ≡ false
  pub shallow : depth (payload_written signed.0) ≤ max_depth
  pub bytes : List ℕ
  pub spells : decoded_of standard signed.1 ≡ Some bytes

-- the layer of this payload and signature, without a log entry and without a certificate
abbrev pub found_layer : Signed → List ℕ → SignatureLayer
found_layer signed content = record {
  kind = kinds.Payload;
  content = content;
  oci_digest = digest_text Sha256 content;
  annotations = signature_notes signed.1;
  simple_signing = Some signed.0;
  signature = signed.1;
  certificate_signature = None;
  bundle = None;
}

-- what the layer that is pushed for a payload is read as, for the image that the payload names
abbrev pub IsFoundAs : Trust → Signed → ImageLayer → Type 0
IsFoundAs trust signed image =
    layer_read trust signed.0.docker_manifest_digest
    (input kinds.Payload image.content (digest_text Sha256 image.content) (signature_notes signed.1))
    ≡ Ok (found_layer signed image.content)

-- whichever logs are trusted
abbrev pub SignaturesAreFound : Type 0
SignaturesAreFound = (trust : Trust) (signed : Signed) (image : ImageLayer)
    → IsLayerFor signed image → CanBeRead signed → IsFoundAs trust signed image
