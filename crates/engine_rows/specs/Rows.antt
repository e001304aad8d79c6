-- The steps of the client's calls, in the terms of the OCI distribution specification. A row is a protocol that ends at
-- its first refusal.
use Rattle.std.specs.Prelude.{ℕ, Bool, true, false, List, [], Option, Some, None, Result, Ok, Err}
use Rattle.std.specs.FinMap as map
use Rattle.url.specs.Parts.{Parts, serialize}
use Rattle.oci_transport.specs.Link.{answer_of}
use Rattle.oci_transport.specs.Urls.{targets, request_url}
use Rattle.oci_transport.specs.declared.message.Request.{Request}
use Rattle.oci_transport.specs.declared.message.AnswerHead.{AnswerHead}
use Rattle.oci_transport.specs.declared.message.Method.{Method}
use Rattle.oci_transport.specs.declared.message.Method.TheVariants.{Get}
use Rattle.oci_names.specs.declared.reference.Reference.{Reference}
use Rattle.oci_names.specs.Reference.{resolved_registry}
use Rattle.oci_auth.specs.declared.auth.RegistryAuth.{RegistryAuth}
use Rattle.oci_auth.specs.declared.auth_state.AuthState.{AuthState}
use Rattle.oci_auth.specs.AuthState.{stored}
use Rattle.oci_auth.specs.Cache.{key_of, token_at, with_token}
use Rattle.oci_auth.specs.Auth.{own_token, unasked}
use Rattle.oci_auth.specs.Kept.{Key}
use Rattle.oci_auth.specs.Token.{token_text}
use Rattle.oci_auth.specs.declared.token_type.RegistryOperation.{RegistryOperation}
use Rattle.oci_auth.specs.declared.token_type.RegistryTokenType.{RegistryTokenType}
use Rattle.oci_auth.specs.declared.token_type.RegistryTokenType.TheVariants as token
use Rattle.oci_auth.specs.declared.bearer.BearerChallenge.{BearerChallenge}
use Rattle.oci_protocol.specs.Proto.{Reading, Unread, Within, Reply, Headed, Answered, Failed, TooLong}
use Rattle.oci_protocol.specs.Proto.{SinkFailed, read_within, read_none, Proto, Done, Recall, Keep, bind, ◌>>=◌, ◌>>◌}
use Rattle.oci_protocol.specs.Follow.{follow}
use Rattle.engine_answers.specs.declared.answers.Got.{Got}
use Rattle.engine_terms.specs.declared.settings.Settings.{Settings}
use Rattle.engine_terms.specs.declared.error.OciDistributionError.{OciDistributionError}
use Rattle.engine_terms.specs.declared.error.OciDistributionError.TheVariants as refusal
use Rattle.engine_requests.specs.Addresses.{registry_text, base_text, url_read}
use Rattle.engine_terms.specs.Contexts.{Context}
use Rattle.engine_requests.specs.Requests.{request_of}
use Rattle.engine_requests.specs.Tokens.{wanted, realm_request, token_read}
use Rattle.engine_requests.specs.declared.tokens.Wanted.{Wanted}
use Rattle.engine_requests.specs.declared.tokens.Wanted.TheVariants as wants
use Rattle.engine_answers.specs.Answers.{header_digest}
use Rattle.engine_rows.specs.declared.named.NamedAnswer.{NamedAnswer}
use Rattle.engine_rows.specs.declared.named.NamedAnswer.TheVariants.{ByHeader, Unnamed}

abbrev pub Row : Type 0 → Type 0
Row A = Proto AuthState (Result A OciDistributionError)

-- ---- ways to send a request

-- the whole last response, with its URL
abbrev pub whole_reply : Request → Reply → Row Got
whole_reply last (Answered answer) = Done (Ok (record { url = last.url; answer = answer }))
whole_reply last TooLong = Done (Err refusal.BodyTooLong)
whole_reply last Failed = Done (Err refusal.TransportFault)
-- unreachable: the body is read, and not into a sink
whole_reply last (Headed head) = Done (Ok (record { url = last.url; answer = answer_of head [] }))
whole_reply last SinkFailed = Done (Err refusal.SinkFault)

unfoldable pub whole : ℕ → Request → ℕ → Row Got
whole times request limit = follow times request (read_within limit) whole_reply

-- the head of the last response
abbrev pub head_reply : Request → Reply → Row AnswerHead
head_reply last (Headed head) = Done (Ok head)
head_reply last _ = Done (Err refusal.TransportFault)

unfoldable pub head_after : ℕ → Request → Row AnswerHead
head_after times request = follow times request read_none head_reply

-- a response whose header names no digest, or a malformed one, is not read
abbrev pub reading_named : ℕ → Result (Option (List ℕ)) OciDistributionError → Reading
reading_named limit (Ok (Some digest)) = Within limit
reading_named limit (Ok None) = Unread
reading_named limit (Err e) = Unread

unfoldable pub named_reading : ℕ → AnswerHead → Reading
named_reading limit head = reading_named limit (header_digest head.headers)

abbrev pub unread_named : Result (Option (List ℕ)) OciDistributionError → Result NamedAnswer OciDistributionError
unread_named (Ok digest) = Ok Unnamed
unread_named (Err e) = Err e

abbrev pub read_named : Got → Result (Option (List ℕ)) OciDistributionError → Result NamedAnswer OciDistributionError
read_named got (Ok (Some digest)) = Ok (ByHeader digest got)
-- unreachable
read_named got (Ok None) = Ok Unnamed
read_named got (Err e) = Err e

abbrev pub named_reply : Request → Reply → Row NamedAnswer
named_reply last (Headed head) = Done (unread_named (header_digest head.headers))
named_reply last (Answered answer) = Done (read_named (record { url = last.url; answer = answer })
    (header_digest answer.headers))
named_reply last TooLong = Done (Err refusal.BodyTooLong)
named_reply last Failed = Done (Err refusal.TransportFault)
named_reply last SinkFailed = Done (Err refusal.SinkFault)

-- the whole last response, if its header names a digest
unfoldable pub named_after : ℕ → Request → ℕ → Row NamedAnswer
named_after times request limit = follow times request (named_reading limit) named_reply

-- ---- the client state

abbrev pub recalled : Row AuthState
recalled = Recall (λ k. Done (Ok k))

abbrev pub keep : AuthState → Row Unit
keep k = Keep k (Done (Ok tt))

-- credentials are stored for the registry, unless some are already
unfoldable pub store : Reference → RegistryAuth → Row Unit
store image a = do
  k ← recalled
  keep (stored k (resolved_registry image) a)

-- ---- tokens

-- a token is requested from the realm of a challenge
unfoldable pub realm_asked : Settings → Reference → RegistryAuth → RegistryOperation → BearerChallenge
    → Row (Option RegistryTokenType)
realm_asked s image a op challenge = do
  url ← Done (url_read challenge.realm)
  request ← Done (realm_request s image a op challenge.service url)
  got ← whole 0 request s.max_body_bytes
  Done (token_read got.answer)

-- what the registry requires is obtained
abbrev pub fetched : Settings → Reference → RegistryAuth → RegistryOperation → Wanted → Row (Option RegistryTokenType)
fetched s image a op wants.Nothing = Done (Ok None)
fetched s image a op wants.Credentials = Done (Ok (own_token a))
fetched s image a op (wants.Token challenge) = realm_asked s image a op challenge

-- `/v2/` of the registry is requested, without credentials; the status and the body are ignored
unfoldable pub registry_asked : Settings → Reference → RegistryAuth → RegistryOperation → Row (Option RegistryTokenType)
registry_asked s image a op = do
  url ← Done (url_read (base_text s image))
  request ← Done (request_of s Get url None None)
  head ← head_after 0 request
  fetched s image a op (wanted head)

-- a token that needs no request, or else what the registry requires
abbrev pub unasked_or_asked : Settings → Reference → RegistryAuth → RegistryOperation → Option RegistryTokenType
    → Row (Option RegistryTokenType)
unasked_or_asked s image a op (Some token) = Done (Ok (Some token))
unasked_or_asked s image a op None = registry_asked s image a op

-- the token step: a token that was passed in needs no request
abbrev pub token_step : Settings → Reference → RegistryAuth → RegistryOperation → Row (Option RegistryTokenType)
token_step s image a op = unasked_or_asked s image a op (unasked a)

-- the client state after this token was obtained
abbrev pub with_kept : AuthState → Key → RegistryTokenType → ℕ → AuthState
with_kept k key token moment = record k { tokens = with_token k.tokens key token moment }

-- a refusal other than out of memory gives no token
abbrev pub passed_over : OciDistributionError → Result (Option RegistryTokenType) OciDistributionError
passed_over refusal.WantOfMemory = Err refusal.WantOfMemory
passed_over _ = Ok None

-- a token that was obtained is stored and used
abbrev pub taken : ℕ → Key → Result (Option RegistryTokenType) OciDistributionError → Row (Option RegistryTokenType)
taken moment key (Ok None) = Done (Ok None)
taken moment key (Ok (Some token)) = Recall (λ k. Keep (with_kept k key token moment) (Done (Ok (Some token))))
taken moment key (Err e) = Done (passed_over e)

unfoldable pub token_asked : Context → Reference → RegistryOperation → RegistryAuth → Row (Option RegistryTokenType)
token_asked s image op a = bind (token_step s.settings image a op) (taken s.moment (key_of image op))

-- the stored token, or else a newly requested one
abbrev pub kept_or_asked : Context → Reference → RegistryOperation → RegistryAuth → Option RegistryTokenType
    → Row (Option RegistryTokenType)
kept_or_asked s image op a (Some token) = Done (Ok (Some token))
kept_or_asked s image op a None = token_asked s image op a

abbrev pub token_by : Context → Reference → RegistryOperation → Option RegistryAuth → Option RegistryTokenType
    → Row (Option RegistryTokenType)
token_by s image op None kept = Done (Ok None)
token_by s image op (Some a) kept = kept_or_asked s image op a kept

-- only if credentials are stored for the registry
unfoldable pub token_for : Context → Reference → RegistryOperation → Row (Option RegistryTokenType)
token_for s image op = do
  k ← recalled
  token_by s image op (map.get k.credentials (resolved_registry image)) (token_at k.tokens (key_of image op) s.moment)

abbrev pub goes_to : Option Parts → Parts → Bool
goes_to None registry = false
goes_to (Some url) registry = targets url registry

abbrev pub token_where : Context → Reference → RegistryOperation → Bool → Row (Option RegistryTokenType)
token_where s image op false = Done (Ok None)
token_where s image op true = token_for s image op

-- the token of a request to the registry; no token for a request to another host
unfoldable pub authorized : Context → Reference → RegistryOperation → Parts → Row (Option RegistryTokenType)
authorized s image op url = do
  registry ← Done (url_read (registry_text s.settings image))
  token_where s image op (goes_to (request_url (serialize url)) registry)

-- the request for this URL, with its token
unfoldable pub prepared : Context → Reference → RegistryOperation → Method → Parts → List ℕ → Row Request
prepared s image op method url types = do
  token ← authorized s image op url
  Done (request_of s.settings method url (Some types) token)

-- the token of credentials that are passed in, which is stored; its text is returned if it is a realm's
abbrev pub shown_text : RegistryTokenType → Option (List ℕ)
shown_text (token.Bearer given) = Some (token_text given)
shown_text (token.Basic user password) = None

abbrev pub kept_text : ℕ → Key → Option RegistryTokenType → Row (Option (List ℕ))
kept_text moment key None = Done (Ok None)
kept_text moment key (Some given) = do
  k ← recalled
  keep (with_kept k key given moment)
  Done (Ok (shown_text given))

unfoldable pub token_given : Context → Reference → RegistryAuth → RegistryOperation → Row (Option (List ℕ))
token_given s image a op = do
  store image a
  given ← token_step s.settings image a op
  kept_text s.moment (key_of image op) given
