-- What the requests of a push contain, and what its result names.
use Rattle.std.specs.Prelude.{◌≡◌, ◌⊎◌, ℕ, true, List, [], ◌∷◌, ◌++◌, Some, None, Result, Ok, Err, codes}
use Rattle.std.specs.List.{Contains}
use Rattle.oci_digests.specs.Names.{digest_text}
use Rattle.oci_names.specs.declared.algorithm.Algorithm.TheVariants.{Sha256}
use Rattle.oci_names.specs.declared.reference.Reference.{Reference}
use Rattle.oci_protocol.specs.Ends.{UnlessMemory}
use Rattle.oci_protocol.specs.Runs.{Told}
use Rattle.oci_transport.specs.Headers.{first_of}
use Rattle.oci_transport.specs.Link.{Link}
use Rattle.oci_transport.specs.Pieces.{joined}
use Rattle.oci_transport.specs.declared.message.Answer.{Answer}
use Rattle.oci_transport.specs.declared.message.Exchange.{Exchange}
use Rattle.oci_transport.specs.declared.message.Method.TheVariants.{Put}
use Rattle.oci_transport.specs.declared.message.Request.{Request}
use Rattle.engine_terms.specs.Error.{is_memory}
use Rattle.engine_terms.specs.declared.error.OciDistributionError.{OciDistributionError}
use Rattle.engine_terms.specs.declared.settings.Settings.{Settings}
use Rattle.engine_answers.specs.Answers.{is_success}
use Rattle.engine_rows.specs.TokenCauses.{LastIs, WithAnswer}
use Rattle.push_rows.specs.Bodies.{bodies, IsPrefix}
use Rattle.push_rows.specs.Causes.{of_upload, IsPushed, Named}

-- ---- a manifest

-- the request has these bytes under this content type
pub record IsDocument (kind body : List ℕ) (request : Request) : Type 0 where
  pub method : request.method ≡ Put
  pub content_type : first_of (codes "content-type") request.headers ≡ Some kind
  pub bytes : request.body ≡ body

-- the last request is this document, and those before it have no body
pub record DocumentSent (kind body : List ℕ) (c : List Exchange) : Type 0 where
  pub before : List Exchange
  pub last : Exchange
  pub split : c ≡ before ++ last ∷ []
  pub bodiless : bodies before ≡ []
  pub document : IsDocument kind body last.request

-- after a refusal maybe no request has a body
abbrev pub SentBy : {A : Type 0} → List ℕ → List ℕ → List Exchange → Result A OciDistributionError → Type 0
SentBy kind body c (Ok a) = DocumentSent kind body c
SentBy kind body c (Err e) = (bodies c ≡ []) ⊎ DocumentSent kind body c

-- If exchanges are exposed, one request contained these bytes under this content type, whatever the response was, and no
-- other request has a body.
abbrev pub SendsDocument : {A : Type 0} → List ℕ → List ℕ → Link → Link → Result A OciDistributionError → Type 0
SendsDocument kind body old new r = UnlessMemory is_memory (λ r. Told (λ c. SentBy kind body c r) old new) r

-- The URL is a location that a response named; or the last response names none, and the URL ends in the text of the
-- SHA-256 digest of these bytes.
abbrev pub NamedManifest : Settings → Reference → List ℕ → List ℕ → List Exchange → Type 0
NamedManifest s image body url c = Named s image c url
    ⊎ (LastIs (WithAnswer (λ answer. first_of (codes "location") answer.headers ≡ None)) c
    × (front : List ℕ) × (url ≡ front ++ digest_text Sha256 body))

-- ---- an image

-- no response to a request of the push has another 2xx status than expected
abbrev pub NoneOther : List Exchange → Type 0
NoneOther c = (e : Exchange) → Contains c e → (expected : ℕ) → IsPushed of_upload expected e → (answer : Answer)
    → e.answer ≡ Some answer → is_success answer.status ≡ true → answer.status ≡ expected

-- the bodies are these bytes, or a prefix of them after a refusal
abbrev pub SentBytes : {A : Type 0} → List ℕ → List Exchange → Result A OciDistributionError → Type 0
SentBytes bytes c (Ok a) = joined (bodies c) ≡ bytes
SentBytes bytes c (Err e) = IsPrefix (joined (bodies c)) bytes

-- If exchanges are exposed, and no response to a request of the push has another 2xx status than expected, the requests
-- contained these blobs in order, then the text of the manifest, or a prefix of that after a refusal.
abbrev pub SendsImage : {A : Type 0} → List (List ℕ) → List ℕ → Link → Link → Result A OciDistributionError → Type 0
SendsImage blobs text old new r =
    UnlessMemory is_memory (λ r. Told (λ c. NoneOther c → SentBytes (joined blobs ++ text) c r) old new) r
