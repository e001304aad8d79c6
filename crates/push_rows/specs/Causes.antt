-- Why a push was refused. A refusal about a response is about the last one of the call, to a request of the push.
use Rattle.std.specs.Prelude.{◌≡◌, ◌≢◌, ◌<◌, ◌⊎◌, ℕ, true, false, List, [], Option, Some, None, is_some, codes, length}
use Rattle.std.specs.List.{Contains}
use Rattle.json_values.specs.Counts.{Increased}
use Rattle.oci_names.specs.declared.reference.Reference.{Reference}
use Rattle.oci_transport.specs.Headers.{first_of, is_text, is_header_value}
use Rattle.oci_transport.specs.Urls.{request_url}
use Rattle.oci_transport.specs.declared.message.Answer.{Answer}
use Rattle.oci_transport.specs.declared.message.Exchange.{Exchange}
use Rattle.oci_transport.specs.declared.message.Method.{Method}
use Rattle.oci_transport.specs.declared.message.Method.TheVariants.{Post, Put, Patch}
use Rattle.engine_terms.specs.declared.error.GenericCause.TheVariants.{HeaderText, NoSize, SizeDiffers}
use Rattle.engine_terms.specs.declared.error.SpecViolation.TheVariants.{Status}
use Rattle.engine_terms.specs.declared.error.OciDistributionError.{OciDistributionError}
use Rattle.engine_terms.specs.declared.error.OciDistributionError.TheVariants as refusal
use Rattle.engine_terms.specs.declared.settings.Settings.{Settings}
use Rattle.engine_requests.specs.Addresses.{registry_text, uploads_text}
use Rattle.engine_answers.specs.Answers.{is_success}
use Rattle.engine_rows.specs.Causes.{HasBadToken}
use Rattle.engine_rows.specs.Held.{Entry}
use Rattle.engine_rows.specs.TokenCauses.{LastIs}
use Rattle.push_rows.specs.Locations.{resolved}

-- ---- the requests of a push, and the status that each expects

-- of an upload: it is begun, continued and ended
abbrev pub of_upload : Method → Option ℕ
of_upload Post = Some 202
of_upload Patch = Some 202
of_upload Put = Some 201
of_upload _ = None

-- of a mount
abbrev pub of_mount : Method → Option ℕ
of_mount Post = Some 201
of_mount _ = None

-- it is a request of the push, and expects this status
abbrev pub IsPushed : (Method → Option ℕ) → ℕ → Exchange → Type 0
IsPushed expects expected e = expects e.request.method ≡ Some expected

-- it has a response, and P holds for the expected status, its URL and the response
abbrev pub AnsweredPush : (Method → Option ℕ) → (ℕ → List ℕ → Answer → Type 0) → Exchange → Type 0
AnsweredPush expects P e = (expected : ℕ) × IsPushed expects expected e × (answer : Answer)
    × (e.answer ≡ Some answer) × P expected e.request.url answer

-- it failed
abbrev pub FailedPush : (Method → Option ℕ) → ℕ → Exchange → Type 0
FailedPush expects now e = (expected : ℕ) × IsPushed expects expected e × Increased e.faults now

-- ---- causes

-- a response named this location
pub record Named (s : Settings) (image : Reference) (c : List Exchange) (text : List ℕ) : Type 0 where
  pub exchange : Exchange
  pub contains : Contains c exchange
  pub answer : Answer
  pub answered : exchange.answer ≡ Some answer
  pub value : List ℕ
  pub header : first_of (codes "location") answer.headers ≡ Some value
  pub text_is : text ≡ resolved s image value

-- the URL of the registry or of its uploads is parsed, or a location
abbrev pub PushText : Settings → Reference → List Exchange → List ℕ → Type 0
PushText s image c text = (text ≡ registry_text s image) ⊎ ((text ≡ uploads_text s image) ⊎ Named s image c text)

-- the user agent or a token that the call may send is not a valid header value
abbrev pub BadUpload : Entry → Settings → List Exchange → Type 0
BadUpload x s c = (is_header_value s.user_agent ≡ false) ⊎ HasBadToken x c

-- what the last response shows, as the refusal states
abbrev pub ShownBy : OciDistributionError → ℕ → List ℕ → Answer → Type 0
ShownBy (refusal.ServerError code url body) expected address answer = (code ≡ answer.status) × (url ≡ address)
    × (body ≡ answer.body) × (is_success answer.status ≡ false)
ShownBy (refusal.SpecViolationError (Status wanted got url)) expected address answer = (wanted ≡ expected)
    × (got ≡ answer.status) × (url ≡ address) × (is_success got ≡ true) × (got ≢ expected)
ShownBy refusal.RegistryNoLocationError expected address answer = (answer.status ≡ expected)
    × (first_of (codes "location") answer.headers ≡ None)
ShownBy (refusal.HeaderValueError value) expected address answer = (answer.status ≡ expected)
    × (first_of (codes "location") answer.headers ≡ Some value) × (is_text value ≡ false)
ShownBy _ expected address answer = ⊥

-- Why a push was refused: `expects` gives the status that each request expects, `Text` holds for texts of possibly
-- malformed URLs, `Own` for what the call itself may refuse, `Bad` when a header value is invalid. Memory may run out
-- anywhere.
abbrev pub PushCause : (Method → Option ℕ) → (List Exchange → List ℕ → Type 0) → (OciDistributionError → Type 0)
    → (List Exchange → Type 0) → Settings → List Exchange → ℕ → OciDistributionError → Type 0
PushCause expects Text Own Bad s c now (refusal.UrlParseError text) = (request_url text ≡ None) × Text c text
PushCause expects Text Own Bad s c now (refusal.GenericError HeaderText) = Bad c
PushCause expects Text Own Bad s c now refusal.TransportFault = LastIs (FailedPush expects now) c
PushCause expects Text Own Bad s c now refusal.BodyTooLong = Own refusal.BodyTooLong
    ⊎ LastIs (AnsweredPush expects (λ expected address answer. s.max_body_bytes < length answer.body)) c
PushCause expects Text Own Bad s c now refusal.WantOfMemory = Unit {0}
PushCause expects Text Own Bad s c now e = Own e ⊎ LastIs (AnsweredPush expects (ShownBy e)) c

-- ---- what a call itself refuses

-- bytes in memory: there are none
abbrev pub OfBytes : List ℕ → OciDistributionError → Type 0
OfBytes content refusal.PushNoDataError = content ≡ []
OfBytes content _ = ⊥

-- a stream: its source failed, or gave more bytes than the limit, or its size is missing or different
abbrev pub OfStream : Option ℕ → OciDistributionError → Type 0
OfStream size refusal.SourceFault = Unit {0}
OfStream size refusal.BodyTooLong = Unit {0}
OfStream size (refusal.GenericError NoSize) = size ≡ None
OfStream size (refusal.GenericError SizeDiffers) = (n : ℕ) × (size ≡ Some n)
OfStream size _ = ⊥

-- the size is passed in, if the stream is sent by one request
abbrev pub IsSized : Settings → Option ℕ → Type 0
IsSized s size = s.use_monolithic_push ≡ true → is_some size ≡ true

-- a stream whose digest is returned, which may be empty
abbrev pub OfNamedStream : OciDistributionError → Type 0
OfNamedStream refusal.PushNoDataError = Unit {0}
OfNamedStream e = OfStream None e

-- nothing
abbrev pub OfNothing : OciDistributionError → Type 0
OfNothing e = ⊥

-- ---- the calls

-- why a blob was not pushed
abbrev pub UploadCause : (OciDistributionError → Type 0) → Entry → Settings → List Exchange → ℕ → OciDistributionError
    → Type 0
UploadCause Own x s c now e = PushCause of_upload (PushText s x.image) Own (BadUpload x s) s c now e

-- why it was not mounted
abbrev pub MountCause : Entry → Settings → List Exchange → ℕ → OciDistributionError → Type 0
MountCause x s c now e = PushCause of_mount (PushText s x.image) OfNothing (BadUpload x s) s c now e
