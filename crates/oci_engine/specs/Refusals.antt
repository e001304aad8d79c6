-- Why each call of a client was refused. The words are those of `Causes.antt` in `engine_rows`, and for streams, lists
-- and pushes of `Causes.antt` in `engine_streams`, `engine_pull` and `push_rows`.
use Rattle.std.specs.Prelude.{◌≡◌, ℕ, List, Option, Some, None, Result, Err, IfErr}
use Rattle.json_values.specs.Counts.{Increased}
use Rattle.oci_transport.specs.Link.{Link}
use Rattle.oci_transport.specs.Urls.{request_url}
use Rattle.oci_transport.specs.declared.message.Exchange.{Exchange}
use Rattle.oci_names.specs.declared.reference.Reference.{Reference}
use Rattle.oci_auth.specs.declared.auth.RegistryAuth.{RegistryAuth}
use Rattle.oci_auth.specs.declared.token_type.RegistryOperation.TheVariants.{Push}
use Rattle.oci_protocol.specs.Runs.{Told}
use Rattle.engine_terms.specs.Contexts.{Context, within}
use Rattle.engine_requests.specs.Requests.{manifest_types}
use Rattle.engine_requests.specs.Sources.{Layer}
use Rattle.oci_names.specs.Reference.{digest_of}
use Rattle.engine_terms.specs.declared.error.GenericCause.TheVariants.{NoDigest}
use Rattle.engine_terms.specs.declared.error.OciDistributionError.{OciDistributionError}
use Rattle.engine_terms.specs.declared.error.OciDistributionError.TheVariants as refusal
use Rattle.engine_rows.specs.Blobs.{Destination}
use Rattle.oci_engine.specs.declared.client.Client.{Client}
use Rattle.oci_engine.specs.Kept.{auth_state_of}
use Rattle.engine_rows.specs.Held.{Entry, asking, pulling}
use Rattle.engine_rows.specs.ReferrersCauses.{ReferrersCause}
use Rattle.engine_rows.specs.Causes.{Cause, AnswerCause, DocumentCause, BadHeader, OwnDigest, ManifestUrl}
use Rattle.engine_rows.specs.Causes.{BlobUrl, BlobCause, FoundCause, ConfigCause, ImageCause, IsRefusedAs}
use Rattle.engine_streams.specs.declared.range.ByteRange.{ByteRange}
use Rattle.engine_streams.specs.Causes.{StreamCause, StreamUrl}
use Rattle.engine_pull.specs.Causes.{BadValue, ExistsUrl, ExistsAnswer, ListUrl, ListAnswer}
use Rattle.engine_pull.specs.Listings.{tags_text, catalog_text}
use Rattle.push_rows.specs.Causes.{UploadCause, MountCause}
use Rattle.push_rows.specs.Images.{manifest_for}
use Rattle.push_rows.specs.ImageCauses.{ManifestPushCause, ImagePushCause, blobs_of}
use Rattle.oci_manifests.specs.Document.{content_type_of}
use Rattle.oci_manifests.specs.declared.blob.Config.{Config}
use Rattle.oci_manifests.specs.declared.blob.ImageLayer.{ImageLayer}
use Rattle.oci_manifests.specs.declared.document.OciManifest.TheVariants.{Image}
use Rattle.oci_manifests.specs.declared.manifest.OciImageManifest.{OciImageManifest}
use Rattle.oci_docs.specs.Tags.{tag_response_of}
use Rattle.oci_docs.specs.Catalog.{catalog_response_of}

-- ---- what clauses state

-- the exchanges exposed between two states of a transport have the cause of the refusal, if the call was refused
abbrev pub RefusedFor : {A : Type 0} → (List Exchange → ℕ → OciDistributionError → Type 0) → Link → Link
    → Result A OciDistributionError → Type 0
RefusedFor Why old new r = IfErr r (λ e. Told (λ c. Why c new.faults e) old new)

-- a fault of the transport is returned only if its fault count increased
abbrev pub FaultCounted : {A : Type 0} → Link → Link → Result A OciDistributionError → Type 0
FaultCounted old new r = r ≡ Err refusal.TransportFault → Increased old.faults new.faults

-- a string that is not a URL is refused as such, unless memory ran out
abbrev pub UrlRefused : {A : Type 0} → List ℕ → Result A OciDistributionError → Type 0
UrlRefused text r = request_url text ≡ None → IsRefusedAs (refusal.UrlParseError text) r

-- a reference without a digest is refused as such, unless memory ran out
abbrev pub DigestWanted : {A : Type 0} → Reference → Result A OciDistributionError → Type 0
DigestWanted image r = digest_of image ≡ None → IsRefusedAs (refusal.GenericError NoDigest) r

-- a client's call at a moment, for this image
abbrev pub at_moment : Client → ℕ → Context
at_moment client moment = within client.settings moment

-- a value that the call would send is not a valid header value; credentials may be passed in
abbrev pub BadHeaderOf : Client → ℕ → Reference → Option RegistryAuth → List ℕ → List Exchange → Type 0
BadHeaderOf client moment image a types =
    BadHeader (pulling (auth_state_of client) (at_moment client moment) image a) client.settings types

-- the same of a request that lists no types
abbrev pub BadValueOf : Client → ℕ → Reference → Option RegistryAuth → List Exchange → Type 0
BadValueOf client moment image a = BadValue (pulling (auth_state_of client) (at_moment client moment) image a)
    client.settings

-- ---- manifests, images and blobs

-- of the image's digest
abbrev pub DigestRefused : Client → ℕ → Reference → RegistryAuth → List Exchange → ℕ
    → OciDistributionError → Type 0
DigestRefused client moment image a c now e =
    Cause (ManifestUrl client.settings image) (AnswerCause (OwnDigest image))
    (BadHeaderOf client moment image (Some a) manifest_types) client.settings c now e

-- of the bytes of its manifest or index, if these types are requested
abbrev pub DocumentRefused : Client → ℕ → Reference → RegistryAuth → List ℕ → List Exchange → ℕ
    → OciDistributionError → Type 0
DocumentRefused client moment image a types c now e =
    Cause (ManifestUrl client.settings image) (AnswerCause (OwnDigest image))
    (BadHeaderOf client moment image (Some a) types) client.settings c now e

-- of its manifest or index
abbrev pub ManifestRefused : Client → ℕ → Reference → RegistryAuth → List Exchange → ℕ
    → OciDistributionError → Type 0
ManifestRefused client moment image a c now e =
    Cause (ManifestUrl client.settings image) (DocumentCause (OwnDigest image))
    (BadHeaderOf client moment image (Some a) manifest_types) client.settings c now e

-- of the manifest of the image, to which an index may lead
abbrev pub FoundRefused : Client → ℕ → Reference → RegistryAuth → List Exchange → ℕ
    → OciDistributionError → Type 0
FoundRefused client moment image a c now e =
    FoundCause (BadHeaderOf client moment image (Some a) manifest_types) client.settings image c now e

-- of it with its configuration as text
abbrev pub ConfigRefused : Client → ℕ → Reference → RegistryAuth → List Exchange → ℕ
    → OciDistributionError → Type 0
ConfigRefused client moment image a c now e =
    ConfigCause (BadHeaderOf client moment image (Some a) manifest_types) client.settings image c now e

-- of the whole image
abbrev pub PullRefused : Client → ℕ → Reference → RegistryAuth → List (List ℕ) → List Exchange → ℕ
    → OciDistributionError → Type 0
PullRefused client moment image a accepted c now e =
    ImageCause (BadHeaderOf client moment image (Some a) manifest_types)
    client.settings image accepted c now e

-- of a blob of its repository, by where the blob goes
abbrev pub BlobRefused : Destination → Client → ℕ → Reference → Layer → List Exchange → ℕ
    → OciDistributionError → Type 0
BlobRefused to client moment image layer c now e =
    BlobCause (BlobUrl client.settings image layer) to
    (BadHeaderOf client moment image None manifest_types) client.settings layer.digest c now e

-- of a list of referrers
abbrev pub ReferrersRefused : Client → ℕ → Reference → List Exchange → ℕ → OciDistributionError → Type 0
ReferrersRefused client moment image c now e =
    ReferrersCause (pulling (auth_state_of client) (at_moment client moment) image None) client.settings c now e

-- ---- streams

-- of a stream of a blob, or of a part of it
abbrev pub StreamRefused : Option ByteRange → Client → ℕ → Reference → Layer → List Exchange → ℕ
    → OciDistributionError → Type 0
StreamRefused range client moment image layer c now e =
    StreamCause range (StreamUrl range client.settings image layer)
    (BadHeaderOf client moment image None manifest_types) client.settings layer.digest c now e

-- ---- what a registry lists, and whether a blob is there

abbrev pub ExistsRefused : Client → ℕ → Reference → List ℕ → List Exchange → ℕ → OciDistributionError → Type 0
ExistsRefused client moment image digest c now e =
    Cause (ExistsUrl client.settings image digest) ExistsAnswer
    (BadValueOf client moment image None) client.settings c now e

-- of the tags of the image's repository, or a page of them
abbrev pub TagsRefused : Client → ℕ → Reference → RegistryAuth → Option ℕ → Option (List ℕ) → List Exchange → ℕ
    → OciDistributionError → Type 0
TagsRefused client moment image a n last c now e =
    Cause (ListUrl client.settings image (tags_text client.settings image) n last) (ListAnswer tag_response_of)
    (BadValueOf client moment image (Some a)) client.settings c now e

-- of the repositories of its registry, or a page of them
abbrev pub CatalogRefused : Client → ℕ → Reference → RegistryAuth → Option ℕ → Option (List ℕ) → List Exchange → ℕ
    → OciDistributionError → Type 0
CatalogRefused client moment image a n last c now e =
    Cause (ListUrl client.settings image (catalog_text client.settings image) n last)
    (ListAnswer catalog_response_of)
    (BadValueOf client moment image (Some a)) client.settings c now e

-- ---- pushes of blobs

-- a push for this image; credentials may be passed in
abbrev pub pushing : Client → ℕ → Reference → Option RegistryAuth → Entry
pushing client moment image handed = asking (auth_state_of client) (at_moment client moment) image Push handed

-- where `Own` is what the call itself may refuse
abbrev pub PushRefused : (OciDistributionError → Type 0) → Client → ℕ → Reference → List Exchange → ℕ
    → OciDistributionError → Type 0
PushRefused Own client moment image c now e = UploadCause Own (pushing client moment image None) client.settings c now e

abbrev pub MountRefused : Client → ℕ → Reference → List Exchange → ℕ → OciDistributionError → Type 0
MountRefused client moment image c now e = MountCause (pushing client moment image None) client.settings c now e

-- ---- pushes of manifests and images

-- of a document of this content type
abbrev pub ManifestPushRefused : List ℕ → Option RegistryAuth → Client → ℕ → Reference → List Exchange → ℕ
    → OciDistributionError → Type 0
ManifestPushRefused kind handed client moment image c now e =
    ManifestPushCause kind (pushing client moment image handed) client.settings c now e

-- of an image, whose manifest may be passed in
abbrev pub ImagePushRefused : List ImageLayer → Config → Client → ℕ → Reference → RegistryAuth → Option OciImageManifest
    → List Exchange → ℕ → OciDistributionError → Type 0
ImagePushRefused layers config client moment image a given c now e =
    ImagePushCause (blobs_of layers config) (content_type_of (Image (manifest_for given layers config)))
    (pushing client moment image (Some a)) client.settings c now e
