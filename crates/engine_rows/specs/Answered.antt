-- What a conversation shows about the results of a client.
use Rattle.std.specs.Prelude.{◌≡◌, ◌⊎◌, ℕ, List, [], ◌∷◌, ◌++◌, Option, Some, None, Ok, unwrap_or}
use Rattle.url.specs.Parts.{Parts, serialize}
use Rattle.byte_streams.specs.SinkState.{SinkState, Adds}
use Rattle.oci_transport.specs.Link.{Link}
use Rattle.oci_transport.specs.Urls.{request_url}
use Rattle.oci_transport.specs.declared.message.Request.{Request}
use Rattle.oci_transport.specs.declared.message.Answer.{Answer}
use Rattle.oci_transport.specs.declared.message.Exchange.{Exchange}
use Rattle.oci_transport.specs.declared.message.Method.{Method}
use Rattle.oci_transport.specs.declared.message.Method.TheVariants.{Get, Head}
use Rattle.oci_names.specs.declared.reference.Reference.{Reference}
use Rattle.oci_names.specs.Reference.{digest_of}
use Rattle.oci_digests.specs.Names.{Names, digest_text}
use Rattle.oci_names.specs.declared.algorithm.Algorithm.TheVariants.{Sha256}
use Rattle.oci_auth.specs.declared.bearer.BearerChallenge.{BearerChallenge}
use Rattle.oci_auth.specs.declared.auth.RegistryAuth.{RegistryAuth}
use Rattle.oci_auth.specs.declared.token_type.RegistryOperation.{RegistryOperation}
use Rattle.oci_auth.specs.declared.token_type.RegistryOperation.TheVariants.{Pull}
use Rattle.oci_auth.specs.declared.token_type.RegistryTokenType.{RegistryTokenType}
use Rattle.oci_protocol.specs.Runs.{head_part, Told}
use Rattle.oci_protocol.specs.Follow.{Trail, IsFinal}
use Rattle.engine_terms.specs.declared.settings.Settings.{Settings}
use Rattle.engine_requests.specs.Addresses.{base_text, manifest_text}
use Rattle.engine_requests.specs.Requests.{manifest_types, request_of}
use Rattle.engine_requests.specs.Tokens.{wanted, realm_request}
use Rattle.engine_requests.specs.declared.tokens.Wanted.TheVariants.{Token}
use Rattle.engine_answers.specs.Answers.{header_digest}

-- the request for the registry's `/v2/`, which contains no token
pub record AsksRegistry (s : Settings) (image : Reference) (request : Request) : Type 0 where
  pub url : Parts
  pub address : request_url (base_text s image) ≡ Some url
  pub made : request_of s Get url None None ≡ Ok request

-- the request for the realm of a challenge, which receives credentials or none
pub record AsksRealm (s : Settings) (image : Reference) (op : RegistryOperation) (challenge : BearerChallenge)
    (request : Request) : Type 0 where
  pub url : Parts
  pub address : request_url challenge.realm ≡ Some url
  pub auth : RegistryAuth
  pub made : realm_request s image auth op challenge.service url ≡ Ok request

-- the request is for the realm that the response of this exchange names
abbrev pub AsksRealmOf : Settings → Reference → RegistryOperation → Exchange → Request → Type 0
AsksRealmOf s image op e request = (answer : Answer) × (e.answer ≡ Some answer) × (challenge : BearerChallenge)
    × (wanted (head_part answer) ≡ Token challenge) × AsksRealm s image op challenge request

-- The exchanges of a token step for the image: none, or one with the registry, or that and one with the realm that its
-- response names. No redirect of either is followed.
abbrev pub OfTokenStep : Settings → Reference → RegistryOperation → List Exchange → Type 0
OfTokenStep s image op [] = Unit {0}
OfTokenStep s image op (e ∷ []) = AsksRegistry s image e.request
OfTokenStep s image op (e ∷ (f ∷ [])) = AsksRegistry s image e.request × AsksRealmOf s image op e f.request
OfTokenStep s image op _ = ⊥

-- The request has this method and URL, these types if it lists any, and a token if it contains one.
pub record Asks (s : Settings) (method : Method) (url : Parts) (types : Option (List ℕ)) (request : Request) : Type 0
  where
    pub method_is : request.method ≡ method
    pub address_is : request.url ≡ serialize url
    pub token : Option RegistryTokenType
    pub made : request_of s method url types token ≡ Ok request

-- The exchanges are the redirects that the request led to, and the one whose response is `answer`, which is not a
-- redirect that is followed.
pub record LedTo (request : Request) (c : List Exchange) (answer : Answer) : Type 0 where
  pub redirects : List Exchange
  pub last : Exchange
  pub split : c ≡ redirects ++ last ∷ []
  pub before : ℕ
  pub left : ℕ
  pub count : ℕ
  pub trail : Trail 10 request before redirects left last.request count
  pub answered : last.answer ≡ Some answer
  pub final : IsFinal left last.request (head_part answer)

-- The first request of a call that is not part of its token step: that step, the request after it, with this method,
-- URL and types, the exchanges that it led to, and later exchanges.
pub record FirstAsked (s : Settings) (image : Reference) (op : RegistryOperation) (method : Method) (url : Parts)
    (types : Option (List ℕ)) (c : List Exchange) : Type 0 where
  pub before : List Exchange
  pub step : OfTokenStep s image op before
  pub request : Request
  pub asks : Asks s method url types request
  pub exchanges : List Exchange
  pub answer : Answer
  pub led : LedTo request exchanges answer
  pub after : List Exchange
  pub split : c ≡ before ++ exchanges ++ after

-- the response names the digest in its header
pub record ByHeader (d : List ℕ) (answer : Answer) : Type 0 where
  pub status : answer.status ≡ 200
  pub header : header_digest answer.headers ≡ Ok (Some d)

-- the digest names the response's body: it is the header's, else the reference's, else the SHA-256 text of the body
pub record ByBody (image : Reference) (d : List ℕ) (answer : Answer) : Type 0 where
  pub status : answer.status ≡ 200
  pub header : Option (List ℕ)
  pub header_is : header_digest answer.headers ≡ Ok header
  pub digest : d ≡ unwrap_or header (unwrap_or (digest_of image) (digest_text Sha256 answer.body))
  pub names : Names d answer.body

-- a document was requested later, and the digest names it
pub record ByDocument (s : Settings) (image : Reference) (url : Parts) (d : List ℕ) (c : List Exchange) : Type 0 where
  pub get : FirstAsked s image Pull Get url (Some manifest_types) c
  pub body : ByBody image d get.answer

-- the registry returned this digest for the image
pub record DigestAnswered (s : Settings) (image : Reference) (c : List Exchange) (d : List ℕ) : Type 0 where
  pub url : Parts
  pub address : request_url (manifest_text s image) ≡ Some url
  pub head : FirstAsked s image Pull Head url (Some manifest_types) c
  pub digest : ByHeader d head.answer ⊎ ((header_digest head.answer.headers ≡ Ok None)
      × ByDocument s image url d head.after)

-- the bytes are the body of a response
pub record Body (c : List Exchange) (bytes : List ℕ) : Type 0 where
  pub before : List Exchange
  pub exchange : Exchange
  pub after : List Exchange
  pub split : c ≡ before ++ exchange ∷ after
  pub answer : Answer
  pub answered : exchange.answer ≡ Some answer
  pub body : answer.body ≡ bytes

-- the bytes are the body of the last response of all
pub record LastBody (c : List Exchange) (bytes : List ℕ) : Type 0 where
  pub before : List Exchange
  pub last : Exchange
  pub split : c ≡ before ++ last ∷ []
  pub answer : Answer
  pub answered : last.answer ≡ Some answer
  pub body : answer.body ≡ bytes

-- a document's bytes with their digest, which names them, as the reference's digest does if it has one
pub record Document (image : Reference) (c : List Exchange) (bytes d : List ℕ) : Type 0 where
  pub body : Body c bytes
  pub names : Names d bytes
  pub named : (own : List ℕ) → digest_of image ≡ Some own → Names own bytes

-- the sink holds a blob that the digest names: the whole body of the last response
pub record TookBlob (digest : List ℕ) (old new : Link) (before after : SinkState) : Type 0 where
  pub bytes : List ℕ
  pub took : Adds bytes before after
  pub names : Names digest bytes
  pub body : Told (λ c. LastBody c bytes) old new
