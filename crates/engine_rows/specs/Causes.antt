-- Why a call was refused. A refusal about a response is about the last one of the call.
use Rattle.std.specs.Prelude.{◌≡◌, ◌≢◌, ◌<◌, ◌⊎◌, ℕ, true, false, List, [], ◌∷◌, ◌++◌, Some, None, Result, Ok}
use Rattle.std.specs.Prelude.{Err, length}
use Rattle.std.specs.List.{Contains}
use Rattle.std.specs.Str.{is_utf8}
use Rattle.json_values.specs.Counts.{Increased}
use Rattle.url.specs.Parts.{Parts}
use Rattle.oci_transport.specs.Headers.{digest_header, first_of, is_header_value}
use Rattle.oci_transport.specs.Urls.{request_url}
use Rattle.oci_transport.specs.declared.message.Request.{Request}
use Rattle.oci_transport.specs.declared.message.Answer.{Answer}
use Rattle.oci_transport.specs.declared.message.Exchange.{Exchange}
use Rattle.oci_transport.specs.declared.message.Method.{Method}
use Rattle.oci_names.specs.declared.reference.Reference.{Reference}
use Rattle.oci_auth.specs.Auth.{authorization_of}
use Rattle.oci_auth.specs.declared.token_type.RegistryTokenType.{RegistryTokenType}
use Rattle.oci_names.specs.Reference.{digest_of}
use Rattle.oci_digests.specs.Names.{digest_text}
use Rattle.oci_digests.specs.Checks.{is_header_text, parts_of, named_algorithm}
use Rattle.oci_names.specs.Algorithms.{algorithm_of}
use Rattle.oci_names.specs.declared.algorithm.Algorithm.{Algorithm}
use Rattle.oci_digests.specs.declared.error.DigestError.{DigestError}
use Rattle.oci_digests.specs.declared.error.DigestError.TheVariants as digest_refusal
use Rattle.oci_manifests.specs.declared.document.OciManifest.TheVariants.{Image, ImageIndex}
use Rattle.oci_manifests.specs.declared.manifest.OciImageManifest.{OciImageManifest}
use Rattle.oci_manifests.specs.declared.index.OciImageIndex.{OciImageIndex}
use Rattle.oci_manifests.specs.declared.descriptor.OciDescriptor.{OciDescriptor}
use Rattle.oci_manifests.specs.Promise.{lists, resolved}
use Rattle.oci_manifests.specs.declared.promise.ResolverPromise.{ResolverPromise}
use Rattle.oci_protocol.specs.Runs.{head_part}
use Rattle.oci_protocol.specs.Ends.{UnlessMemory}
use Rattle.oci_protocol.specs.Follow.{Trail, IsFinal}
use Rattle.engine_terms.specs.declared.settings.Settings.{Settings}
use Rattle.engine_terms.specs.declared.error.GenericCause.TheVariants.{ConfigNotText, HeaderText}
use Rattle.engine_terms.specs.declared.error.SpecViolation.TheVariants.{Status}
use Rattle.engine_terms.specs.declared.error.OciDistributionError.{OciDistributionError}
use Rattle.engine_terms.specs.declared.error.OciDistributionError.TheVariants as refusal
use Rattle.engine_requests.specs.Addresses.{registry_text, manifest_text, blob_text}
use Rattle.engine_answers.specs.Answers.{is_success, is_client_error, envelope_in, header_digest}
use Rattle.engine_terms.specs.Error.{is_memory}
use Rattle.engine_answers.specs.Documents.{document_read}
use Rattle.engine_requests.specs.Sources.{Layer, described, place_of}
use Rattle.engine_requests.specs.declared.sources.Place.TheVariants.{Web, Unfit}
use Rattle.engine_rows.specs.Blobs.{Destination, IntoSink, IntoMemory}
use Rattle.engine_answers.specs.Index.{entry_reference}
use Rattle.engine_rows.specs.Image.{is_accepted}
use Rattle.engine_rows.specs.Answered.{Asks, Body, LastBody}
use Rattle.engine_rows.specs.Held.{Entry, IsHeld}

-- ---- what a call parses and sends

-- a string that a call parses as a URL, or a request of its own that it sends; those of its token step are not its own
pub data Act : Type 0 where
  Reads : (text : List ℕ) → Act
  Sends : (request : Request) → Act

-- the request is for this URL, and lists types
abbrev pub AsksAt : Settings → Parts → Request → Type 0
AsksAt s url request = (method : Method) × (types : List ℕ) × Asks s method url (Some types) request

-- for the URL that this text names
abbrev pub AsksText : Settings → List ℕ → Request → Type 0
AsksText s text request = (url : Parts) × (request_url text ≡ Some url) × AsksAt s url request

-- ---- the last exchange of a call

-- A request of the call's own led to this exchange, and the exchange is the last one of all.
pub record LastAsked (Own : Act → Type 0) (c : List Exchange) (last : Exchange) : Type 0 where
  pub front : List Exchange
  pub redirects : List Exchange
  pub split : c ≡ front ++ (redirects ++ last ∷ [])
  pub request : Request
  pub own : Own (Sends request)
  pub before : ℕ
  pub left : ℕ
  pub count : ℕ
  pub trail : Trail 10 request before redirects left last.request count

-- its response, from this address, is `answer`, which is not a redirect that is followed
pub record LastAnswer (Own : Act → Type 0) (c : List Exchange) (address : List ℕ) (answer : Answer) : Type 0 where
  pub last : Exchange
  pub asked : LastAsked Own c last
  pub sent : last.request.url ≡ address
  pub answered : last.answer ≡ Some answer
  pub final : IsFinal asked.left last.request (head_part answer)

-- it failed: the fault count, which is `now`, increased since it was sent
pub record LastFailed (Own : Act → Type 0) (c : List Exchange) (now : ℕ) : Type 0 where
  pub last : Exchange
  pub asked : LastAsked Own c last
  pub rose : Increased last.faults now

-- the body of its response has more bytes than `limit`
pub record LastTooLong (Own : Act → Type 0) (c : List Exchange) (limit : ℕ) : Type 0 where
  pub last : Exchange
  pub asked : LastAsked Own c last
  pub answer : Answer
  pub answered : last.answer ≡ Some answer
  pub long : limit < length answer.body

-- ---- statuses (OCI distribution specification, "Error Codes")

-- a response with a 4xx status other than 401
pub record IsClientError (answer : Answer) : Type 0 where
  pub status : is_client_error answer.status ≡ true
  pub other : answer.status ≢ 401

-- one without a list of errors in it, or a response whose status is neither 2xx nor 4xx
abbrev pub IsServerError : Answer → Type 0
IsServerError answer = (IsClientError answer × (envelope_in answer.body ≡ None))
    ⊎ ((is_success answer.status ≡ false) × (is_client_error answer.status ≡ false))

-- ---- digests

-- the text is a digest that the call was given, or the one of the response's header
abbrev pub Claimed : (List ℕ → Type 0) → Answer → List ℕ → Type 0
Claimed Given answer text = Given text ⊎ (header_digest answer.headers ≡ Ok (Some text))

-- the text of the hash of these bytes, by the algorithm that the other text names
abbrev pub Computed : List ℕ → List ℕ → List ℕ → Type 0
Computed text bytes computed = (a : Algorithm) × (named_algorithm text ≡ Ok a) × (computed ≡ digest_text a bytes)

-- two texts with the same name of an algorithm
abbrev pub SameAlgorithm : List ℕ → List ℕ → Type 0
SameAlgorithm a b = (name : List ℕ) × (x : List ℕ) × (y : List ℕ) × (parts_of a ≡ Some (name, x))
    × (parts_of b ≡ Some (name, y))

abbrev pub DigestCause : (List ℕ → Type 0) → Answer → DigestError → Type 0
DigestCause Given answer (digest_refusal.InvalidHeader value) =
    (first_of digest_header answer.headers ≡ Some value) × (is_header_text value ≡ false)
DigestCause Given answer digest_refusal.MissingAlgorithm = (text : List ℕ) × Claimed Given answer text
    × (parts_of text ≡ None)
DigestCause Given answer (digest_refusal.UnsupportedAlgorithm name) = (text : List ℕ) × (rest : List ℕ)
    × Claimed Given answer text × (parts_of text ≡ Some (name, rest)) × (algorithm_of name ≡ None)
DigestCause Given answer (digest_refusal.VerificationError expected actual) = Claimed Given answer expected
    × (expected ≢ actual) × (Computed expected answer.body actual
    ⊎ ((header_digest answer.headers ≡ Ok (Some actual)) × SameAlgorithm actual expected))
DigestCause Given answer digest_refusal.WantOfMemory = ⊥

-- ---- causes

-- what the last response shows about a refusal: its status, its digests
abbrev pub AnswerCause : (List ℕ → Type 0) → List ℕ → Answer → OciDistributionError → Type 0
AnswerCause Given address answer (refusal.UnauthorizedError url) = (url ≡ address) × (answer.status ≡ 401)
AnswerCause Given address answer (refusal.RegistryError envelope url) = (url ≡ address) × IsClientError answer
    × (envelope_in answer.body ≡ Some envelope)
AnswerCause Given address answer (refusal.ServerError status url body) = (url ≡ address) × IsServerError answer
    × (status ≡ answer.status) × (body ≡ answer.body)
AnswerCause Given address answer (refusal.SpecViolationError (Status expected got url)) = (url ≡ address)
    × (expected ≡ 200) × (got ≡ answer.status) × (is_success got ≡ true) × (got ≢ expected)
AnswerCause Given address answer (refusal.DigestError e) = DigestCause Given answer e
AnswerCause Given address answer _ = ⊥

-- and its body does not parse as a document, as the refusal states
abbrev pub IsNoDocument : Answer → OciDistributionError → Type 0
IsNoDocument answer e = (answer.status ≡ 200) × (document_read answer.body ≡ Err e)

abbrev pub DocumentCause : (List ℕ → Type 0) → List ℕ → Answer → OciDistributionError → Type 0
DocumentCause Given address answer (refusal.VersionedParsingError body) = IsNoDocument answer
    (refusal.VersionedParsingError body)
DocumentCause Given address answer (refusal.ManifestParsingError body) = IsNoDocument answer
    (refusal.ManifestParsingError body)
DocumentCause Given address answer (refusal.AmbiguousManifest body) = IsNoDocument answer
    (refusal.AmbiguousManifest body)
DocumentCause Given address answer (refusal.UnsupportedSchemaVersionError version) = IsNoDocument answer
    (refusal.UnsupportedSchemaVersionError version)
DocumentCause Given address answer (refusal.UnsupportedMediaTypeError kind) = IsNoDocument answer
    (refusal.UnsupportedMediaTypeError kind)
DocumentCause Given address answer e = AnswerCause Given address answer e

-- P holds for the last response and its address
pub record ByLast (Own : Act → Type 0) (P : List ℕ → Answer → Type 0) (c : List Exchange) : Type 0 where
  pub address : List ℕ
  pub answer : Answer
  pub last : LastAnswer Own c address answer
  pub holds : P address answer

-- a value of the request is not a valid header value
abbrev pub HasBadHeader : Settings → List ℕ → Type 0
HasBadHeader s types = (is_header_value s.user_agent ≡ false) ⊎ (is_header_value types ≡ false)

-- a token that the call may send is not a valid header value
abbrev pub HasBadToken : Entry → List Exchange → Type 0
HasBadToken x c = (token : RegistryTokenType) × IsHeld x c token × (is_header_value (authorization_of token) ≡ false)

-- why a request could not be built: the user agent, the types or the token is not a valid header value
abbrev pub BadHeader : Entry → Settings → List ℕ → List Exchange → Type 0
BadHeader x s types c = HasBadHeader s types ⊎ HasBadToken x c

-- Why a call was refused: `Own` are the strings that it parses as URLs and the requests that it sends, `Of` what a
-- refusal states about a response, `Bad` when a header value is invalid. Memory may run out anywhere.
abbrev pub Cause : (Act → Type 0) → (List ℕ → Answer → OciDistributionError → Type 0)
    → (List Exchange → Type 0) → Settings → List Exchange → ℕ → OciDistributionError → Type 0
Cause Own Of Bad s c now (refusal.UrlParseError text) = (request_url text ≡ None) × Own (Reads text)
Cause Own Of Bad s c now (refusal.GenericError HeaderText) = Bad c
Cause Own Of Bad s c now refusal.BodyTooLong = LastTooLong Own c s.max_body_bytes
Cause Own Of Bad s c now refusal.TransportFault = LastFailed Own c now
Cause Own Of Bad s c now refusal.WantOfMemory = Unit {0}
Cause Own Of Bad s c now e = ByLast Own (λ address answer. Of address answer e) c

-- the URL of the registry or of the image's manifest is parsed, and the manifest is requested
abbrev pub ManifestUrl : Settings → Reference → Act → Type 0
ManifestUrl s image (Reads text) = (text ≡ registry_text s image) ⊎ (text ≡ manifest_text s image)
ManifestUrl s image (Sends request) = AsksText s (manifest_text s image) request

-- a URL that is listed and not requested: it is malformed, or it has a user name or a password
abbrev pub UnfitUrl : List (List ℕ) → List ℕ → Type 0
UnfitUrl urls text = Contains urls text × (place_of text ≡ Some (Unfit text))

-- a URL that is listed and requested
abbrev pub AsksListed : Settings → List (List ℕ) → Request → Type 0
AsksListed s urls request = (text : List ℕ) × Contains urls text × (url : Parts) × (place_of text ≡ Some (Web url))
    × AsksAt s url request

-- The URL of the registry or of the blob is parsed, or a URL of its descriptor that is not requested; the blob is
-- requested from its URL or from another such URL.
abbrev pub BlobUrl : Settings → Reference → Layer → Act → Type 0
BlobUrl s image layer (Reads text) = (text ≡ registry_text s image) ⊎ ((text ≡ blob_text s image layer.digest)
    ⊎ UnfitUrl layer.urls text)
BlobUrl s image layer (Sends request) = AsksText s (blob_text s image layer.digest) request
    ⊎ AsksListed s layer.urls request

-- the digest that a reference has
abbrev pub OwnDigest : Reference → List ℕ → Type 0
OwnDigest image text = digest_of image ≡ Some text

-- the requested digest
abbrev pub AskedDigest : List ℕ → List ℕ → Type 0
AskedDigest digest text = text ≡ digest

-- only a call with a sink can return that it failed; its fault count is not exposed here
abbrev pub SinkMayFail : Destination → Type 0
SinkMayFail IntoSink = Unit {0}
SinkMayFail IntoMemory = ⊥

-- of a blob
abbrev pub BlobCause : (Act → Type 0) → Destination → (List Exchange → Type 0) → Settings → List ℕ
    → List Exchange → ℕ → OciDistributionError → Type 0
BlobCause Own to Bad s digest c now refusal.SinkFault = SinkMayFail to
BlobCause Own to Bad s digest c now e = Cause Own (AnswerCause (AskedDigest digest)) Bad s c now e

-- ---- images of indexes

-- the index was parsed from a response's body
pub record IndexRead (c : List Exchange) (index : OciImageIndex) : Type 0 where
  pub bytes : List ℕ
  pub body : Body c bytes
  pub reads : document_read bytes ≡ Ok (ImageIndex index)

-- the last response's body is an index
abbrev pub LastIsIndex : (Act → Type 0) → List Exchange → Type 0
LastIsIndex Own c = ByLast Own
    (λ address answer. (index : OciImageIndex) × (document_read answer.body ≡ Ok (ImageIndex index))) c

-- the digest of an entry in an index that was parsed
pub record EntryDigest (c : List Exchange) (text : List ℕ) : Type 0 where
  pub index : OciImageIndex
  pub read : IndexRead c index
  pub listed : lists text index.manifests ≡ true

-- The promise selects no digest, or it selects this one, which no entry has or which is that of another index.
abbrev pub IsMissing : (Act → Type 0) → ResolverPromise → OciImageIndex → List Exchange → List ℕ → Type 0
IsMissing Own promise index c text = ((resolved promise index.manifests ≡ None) × (text ≡ []))
    ⊎ ((resolved promise index.manifests ≡ Some text)
    × ((lists text index.manifests ≡ false) ⊎ ((lists text index.manifests ≡ true) × LastIsIndex Own c)))

-- an index was parsed in which the image was not found
pub record NotFound (Own : Act → Type 0) (s : Settings) (c : List Exchange) (text : List ℕ) : Type 0 where
  pub index : OciImageIndex
  pub read : IndexRead c index
  pub promise : ResolverPromise
  pub has : s.platform_resolver ≡ Some promise
  pub missing : IsMissing Own promise index c text

-- the digest of the image's reference, or of an index's entry
abbrev pub FoundDigest : Reference → List Exchange → List ℕ → Type 0
FoundDigest image c text = OwnDigest image text ⊎ EntryDigest c text

-- what is parsed and requested for the image's document, or for an entry's
abbrev pub FoundUrl : Settings → Reference → List Exchange → Act → Type 0
FoundUrl s image c act = ManifestUrl s image act
    ⊎ ((digest : List ℕ) × EntryDigest c digest × ManifestUrl s (entry_reference image digest) act)

-- of a call that an index may redirect, with its addresses and digests
abbrev pub IndexCause : (Act → Type 0) → (List ℕ → Type 0) → (List Exchange → Type 0) → Settings
    → List Exchange → ℕ → OciDistributionError → Type 0
IndexCause Own Given Bad s c now refusal.ImageIndexParsingNoPlatformResolverError =
    (s.platform_resolver ≡ None) × LastIsIndex Own c
IndexCause Own Given Bad s c now (refusal.ImageManifestNotFoundError text) = NotFound Own s c text
IndexCause Own Given Bad s c now e = Cause Own (DocumentCause Given) Bad s c now e

-- of the manifest of an image
abbrev pub FoundCause : (List Exchange → Type 0) → Settings → Reference → List Exchange → ℕ
    → OciDistributionError → Type 0
FoundCause Bad s image c now e = IndexCause (FoundUrl s image c) (FoundDigest image c) Bad s c now e

-- ---- images

-- the manifest was parsed from a response's body
pub record ManifestRead (c : List Exchange) (manifest : OciImageManifest) : Type 0 where
  pub bytes : List ℕ
  pub body : Body c bytes
  pub reads : document_read bytes ≡ Ok (Image manifest)

-- a descriptor in a manifest that was parsed: that of its configuration, or of one of its layers
pub record ReadDescriptor (c : List Exchange) (x : OciDescriptor) : Type 0 where
  pub manifest : OciImageManifest
  pub read : ManifestRead c manifest
  pub is : (x ≡ manifest.config) ⊎ Contains manifest.layers x

-- its digest
abbrev pub ReadDigest : List Exchange → List ℕ → Type 0
ReadDigest c text = (x : OciDescriptor) × ReadDescriptor c x × (text ≡ x.digest)

-- the digest of the image's reference, of an index's entry or of a descriptor
abbrev pub ImageDigest : Reference → List Exchange → List ℕ → Type 0
ImageDigest image c text = FoundDigest image c text ⊎ ReadDigest c text

-- what is parsed and requested for the image's document, for an entry's, or for a blob of a descriptor in a manifest
-- that was parsed
abbrev pub ImageUrl : Settings → Reference → List Exchange → Act → Type 0
ImageUrl s image c act = FoundUrl s image c act
    ⊎ ((x : OciDescriptor) × ReadDescriptor c x × BlobUrl s image (described x) act)

-- of an image's manifest and configuration, which is held: it is the body of the last response, and not UTF-8
abbrev pub ConfigCause : (List Exchange → Type 0) → Settings → Reference → List Exchange → ℕ
    → OciDistributionError → Type 0
ConfigCause Bad s image c now (refusal.GenericError ConfigNotText) = (content : List ℕ) × LastBody c content
    × (is_utf8 content ≡ false)
ConfigCause Bad s image c now refusal.SinkFault = ⊥
ConfigCause Bad s image c now e = IndexCause (ImageUrl s image c) (ImageDigest image c) Bad s c now e

-- a layer of a manifest that was parsed has this media type, which is not accepted
pub record NotAccepted (accepted : List (List ℕ)) (c : List Exchange) (kind : List ℕ) : Type 0 where
  pub manifest : OciImageManifest
  pub read : ManifestRead c manifest
  pub layer : OciDescriptor
  pub contains : Contains manifest.layers layer
  pub media_type : layer.media_type ≡ kind
  pub other : is_accepted accepted kind ≡ false

-- of a whole image, whose blobs are held in memory
abbrev pub ImageCause : (List Exchange → Type 0) → Settings → Reference → List (List ℕ) → List Exchange → ℕ
    → OciDistributionError → Type 0
ImageCause Bad s image accepted c now refusal.PullNoLayersError = (manifest : OciImageManifest)
    × ManifestRead c manifest × (manifest.layers ≡ [])
ImageCause Bad s image accepted c now (refusal.IncompatibleLayerMediaTypeError kind) = NotAccepted accepted c kind
ImageCause Bad s image accepted c now refusal.SinkFault = ⊥
ImageCause Bad s image accepted c now e = IndexCause (ImageUrl s image c) (ImageDigest image c) Bad s c now e

-- ---- refusals that must occur

-- the refusal is this one, unless memory ran out
abbrev pub IsRefusedAs : {A : Type 0} → OciDistributionError → Result A OciDistributionError → Type 0
IsRefusedAs e r = UnlessMemory is_memory (λ r. r ≡ Err e) r

-- refused before the request: a string is not a URL, a value is not a valid header value, or memory ran out
abbrev pub IsEarlyRefusal : OciDistributionError → Type 0
IsEarlyRefusal (refusal.UrlParseError text) = request_url text ≡ None
IsEarlyRefusal (refusal.GenericError HeaderText) = Unit {0}
IsEarlyRefusal refusal.WantOfMemory = Unit {0}
IsEarlyRefusal _ = ⊥

-- the call was refused for such a cause
abbrev pub IsEarly : {A : Type 0} → Result A OciDistributionError → Type 0
IsEarly (Ok a) = ⊥
IsEarly (Err e) = IsEarlyRefusal e
