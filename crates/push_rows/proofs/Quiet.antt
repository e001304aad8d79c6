-- The requests that ask for a token have no body.
use Rattle.std.proofs.Common.{◌≡◌, ℕ, Bool, true, false, List, [], ◌∷◌, ◌++◌, Option, Some, None, Result, Ok, Err, refl, sym, ap, ◌∙◌}
use Rattle.std.specs.FinMap as map
use Rattle.url.specs.Parts.{Parts, serialize}
use Rattle.oci_auth.specs.declared.bearer.BearerChallenge.{BearerChallenge}
use Rattle.oci_transport.specs.Headers.{Fields}
use Rattle.oci_transport.specs.Link.{Link}
use Rattle.oci_transport.specs.Urls.{request_url}
use Rattle.oci_transport.specs.declared.message.Request.{Request}
use Rattle.oci_transport.specs.declared.message.AnswerHead.{AnswerHead}
use Rattle.oci_transport.specs.declared.message.Exchange.{Exchange}
use Rattle.oci_transport.specs.declared.message.Method.{Method}
use Rattle.oci_names.specs.declared.reference.Reference.{Reference}
use Rattle.oci_names.specs.Reference.{resolved_registry}
use Rattle.oci_auth.specs.Auth.{own_token, unasked}
use Rattle.oci_auth.specs.Cache.{key_of, token_at}
use Rattle.oci_auth.specs.Kept.{Key}
use Rattle.oci_auth.specs.declared.auth.RegistryAuth.{RegistryAuth}
use Rattle.oci_auth.specs.declared.auth_state.AuthState.{AuthState}
use Rattle.oci_auth.specs.declared.token_type.RegistryOperation.{RegistryOperation}
use Rattle.oci_auth.specs.declared.token_type.RegistryTokenType.{RegistryTokenType}
use Rattle.oci_protocol.specs.Proto.{Reading, Reply, Headed, Answered, Failed, TooLong, SinkFailed, read_none, read_within, Proto, Done, Recall, Keep, bind, unless_refused, ◌>>=◌}
use Rattle.oci_protocol.specs.Follow.{follow}
use Rattle.oci_protocol.specs.Runs.{Meets, Told}
use Rattle.oci_protocol.specs.Safe.{Safe, EachAfter}
use Rattle.oci_protocol.proofs.Safety.{Safe-bind, Safe-once, Meets-safe}
use Rattle.engine_terms.specs.Contexts.{Context}
use Rattle.json_values.specs.Refusals.{◌>>=◌ as ◌into◌}
use Rattle.engine_terms.specs.Error.{is_memory}
use Rattle.engine_terms.specs.declared.error.OciDistributionError.{OciDistributionError}
use Rattle.engine_terms.specs.declared.settings.Settings.{Settings}
use Rattle.engine_requests.specs.Addresses.{registry_text, base_text, url_read}
use Rattle.engine_requests.specs.Requests.{headers_of, bare_request, request_of}
use Rattle.engine_requests.specs.Tokens.{wanted, realm_url, realm_request, token_read}
use Rattle.engine_requests.specs.declared.tokens.Wanted.{Wanted}
use Rattle.engine_requests.specs.declared.tokens.Wanted.TheVariants as wants
use Rattle.engine_rows.specs.Rows.{Row, whole, whole_reply, head_after, head_reply, realm_asked, fetched, registry_asked, unasked_or_asked, token_step, with_kept, taken, passed_over, token_asked, kept_or_asked, token_by, token_for, goes_to, token_where, authorized}
use Rattle.push_rows.specs.Bodies.{bodies}
use Rattle.push_rows.specs.PieceStates.{part}

-- a request that is built from a URL has no body
pub made_bodiless : (s : Settings) (method : Method) (url : Parts) (types : Option (List ℕ)) (token : Option RegistryTokenType) (request : Request) → request_of s method url types token ≡ Ok request → request.body ≡ []
unfolding request_of
made_bodiless s method url types token request is = by_headers (headers_of s types token) is where
  by_headers : (r : Result Fields OciDistributionError) → (r into (λ headers. Ok (bare_request method url headers))) ≡ Ok request → request.body ≡ []
  by_headers (Ok headers) is = let made : bare_request method url headers ≡ request = cc is in sym (ap (λ (r : Request). r.body) made)
  by_headers (Err e) is = absurd (cc is)

realm_bodiless : (s : Settings) (image : Reference) (a : RegistryAuth) (op : RegistryOperation) (service : Option (List ℕ)) (url : Parts) (request : Request) → realm_request s image a op service url ≡ Ok request → request.body ≡ []
unfolding realm_request
realm_bodiless s image a op service url request is = made_bodiless s _ (realm_url image op service url) None (own_token a) request is

-- ---- a walk over the rows

abbrev Bodiless : AuthState → List Exchange → Request → Type 0
Bodiless k c request = request.body ≡ []

abbrev Anything : AuthState → List Exchange → Type 0
Anything k c = Unit {0}

abbrev AnyAnswer : {A : Type 0} → AuthState → List Exchange → A → Type 0
AnyAnswer k c a = Unit {0}

-- no request of it has a body
record Quiet {A : Type 0} (p : Proto AuthState A) : Type 0 where
  safe : (k : AuthState) (c : List Exchange) → Safe Bodiless Anything AnyAnswer k c p

quiet_done : {A : Type 0} (a : A) → Quiet (Done a)
unfolding Safe
quiet_done a = record { safe = λ k c. tt }

quiet_recall : {A : Type 0} (next : AuthState → Proto AuthState A) → ((k : AuthState) → Quiet (next k)) → Quiet (Recall next)
unfolding Safe
quiet_recall next each = record { safe = λ k c. (each k).safe k c }

quiet_keep : {A : Type 0} (kept : AuthState) (rest : Proto AuthState A) → Quiet rest → Quiet (Keep kept rest)
unfolding Safe
quiet_keep kept rest h = record { safe = λ k c. (tt, h.safe kept c) }

quiet_bind : {A B : Type 0} (p : Proto AuthState A) (f : A → Proto AuthState B) → Quiet p → ((a : A) → Quiet (f a)) → Quiet (bind p f)
quiet_bind p f first each = record { safe = λ k c. Safe-bind Bodiless Anything AnyAnswer AnyAnswer p f k c (first.safe k c) (λ k c a h. (each a).safe k c) }

quiet_unless : {A B : Type 0} (f : A → Row B) → ((a : A) → Quiet (f a)) → (r : Result A OciDistributionError) → Quiet (unless_refused f r)
quiet_unless f each (Ok a) = each a
quiet_unless f each (Err e) = quiet_done (Err e)

quiet_next : {A B : Type 0} (p : Row A) (f : A → Row B) → Quiet p → ((a : A) → Quiet (f a)) → Quiet (p >>= f)
quiet_next p f first each = quiet_bind p (unless_refused f) first (quiet_unless f each)

-- a step without a request
quiet_step : {A B : Type 0} (r : Result A OciDistributionError) (f : A → Row B) → ((a : A) → r ≡ Ok a → Quiet (f a)) → Quiet (Done r >>= f)
unfolding bind
quiet_step (Ok a) f each = each a refl
quiet_step (Err e) f each = quiet_done (Err e)

quiet_once : {A : Type 0} (request : Request) (reading : AnswerHead → Reading) (next : Request → Reply → Proto AuthState A) → request.body ≡ [] → ((reply : Reply) → Quiet (next request reply)) → Quiet (follow 0 request reading next)
quiet_once request reading next none each = record { safe = λ k c. Safe-once Bodiless Anything AnyAnswer request reading next k c none (λ e before after reply replies. (each reply).safe k (c ++ e ∷ [])) }

-- ---- the token step

quiet_head : (request : Request) → request.body ≡ [] → Quiet (head_after 0 request)
unfolding head_after
quiet_head request none = quiet_once request read_none head_reply none by_reply where
  by_reply : (reply : Reply) → Quiet (head_reply request reply)
  by_reply (Headed head) = quiet_done _
  by_reply (Answered answer) = quiet_done _
  by_reply Failed = quiet_done _
  by_reply TooLong = quiet_done _
  by_reply SinkFailed = quiet_done _

quiet_whole : (request : Request) (limit : ℕ) → request.body ≡ [] → Quiet (whole 0 request limit)
unfolding whole
quiet_whole request limit none = quiet_once request (read_within limit) whole_reply none by_reply where
  by_reply : (reply : Reply) → Quiet (whole_reply request reply)
  by_reply (Headed head) = quiet_done _
  by_reply (Answered answer) = quiet_done _
  by_reply Failed = quiet_done _
  by_reply TooLong = quiet_done _
  by_reply SinkFailed = quiet_done _

quiet_realm : (s : Settings) (image : Reference) (a : RegistryAuth) (op : RegistryOperation) (challenge : BearerChallenge) → Quiet (realm_asked s image a op challenge)
unfolding realm_asked
quiet_realm s image a op challenge = quiet_step (url_read challenge.realm) _ (λ url read. quiet_step (realm_request s image a op challenge.service url) _ (λ request made.
    quiet_next (whole 0 request s.max_body_bytes) _ (quiet_whole request s.max_body_bytes (realm_bodiless s image a op challenge.service url request made)) (λ got. quiet_done (token_read got.answer))))

quiet_fetched : (s : Settings) (image : Reference) (a : RegistryAuth) (op : RegistryOperation) (w : Wanted) → Quiet (fetched s image a op w)
quiet_fetched s image a op wants.Nothing = quiet_done (Ok None)
quiet_fetched s image a op wants.Credentials = quiet_done (Ok (own_token a))
quiet_fetched s image a op (wants.Token challenge) = quiet_realm s image a op challenge

quiet_registry : (s : Settings) (image : Reference) (a : RegistryAuth) (op : RegistryOperation) → Quiet (registry_asked s image a op)
unfolding registry_asked
quiet_registry s image a op = quiet_step (url_read (base_text s image)) _ (λ url read. quiet_step (request_of s _ url None None) _ (λ request made.
    quiet_next (head_after 0 request) _ (quiet_head request (made_bodiless s _ url None None request made)) (λ head. quiet_fetched s image a op (wanted head))))

quiet_token : (s : Settings) (image : Reference) (a : RegistryAuth) (op : RegistryOperation) → Quiet (token_step s image a op)
quiet_token s image a op = by_unasked (unasked a) where
  by_unasked : (o : Option RegistryTokenType) → Quiet (unasked_or_asked s image a op o)
  by_unasked (Some token) = quiet_done _
  by_unasked None = quiet_registry s image a op

quiet_taken : (moment : ℕ) (key : Key) (r : Result (Option RegistryTokenType) OciDistributionError) → Quiet (taken moment key r)
quiet_taken moment key (Ok None) = quiet_done (Ok None)
quiet_taken moment key (Ok (Some token)) = quiet_recall _ (λ k. quiet_keep (with_kept k key token moment) _ (quiet_done (Ok (Some token))))
quiet_taken moment key (Err e) = quiet_done (passed_over e)

quiet_asked : (s : Context) (image : Reference) (op : RegistryOperation) (a : RegistryAuth) → Quiet (token_asked s image op a)
unfolding token_asked
quiet_asked s image op a = quiet_bind (token_step s.settings image a op) (taken s.moment (key_of image op)) (quiet_token s.settings image a op) (quiet_taken s.moment (key_of image op))

quiet_kept : (s : Context) (image : Reference) (op : RegistryOperation) (a : RegistryAuth) (kept : Option RegistryTokenType) → Quiet (kept_or_asked s image op a kept)
quiet_kept s image op a (Some token) = quiet_done (Ok (Some token))
quiet_kept s image op a None = quiet_asked s image op a

quiet_by : (s : Context) (image : Reference) (op : RegistryOperation) (a : Option RegistryAuth) (kept : Option RegistryTokenType) → Quiet (token_by s image op a kept)
quiet_by s image op None kept = quiet_done (Ok None)
quiet_by s image op (Some a) kept = quiet_kept s image op a kept

quiet_for : (s : Context) (image : Reference) (op : RegistryOperation) → Quiet (token_for s image op)
unfolding token_for
quiet_for s image op = quiet_next _ _ (quiet_recall _ (λ k. quiet_done (Ok k))) (λ k. quiet_by s image op (map.get k.credentials (resolved_registry image)) (token_at k.tokens (key_of image op) s.moment))

quiet_where : (s : Context) (image : Reference) (op : RegistryOperation) (b : Bool) → Quiet (token_where s image op b)
quiet_where s image op true = quiet_for s image op
quiet_where s image op false = quiet_done (Ok None)

quiet_authorized : (s : Context) (image : Reference) (op : RegistryOperation) (url : Parts) → Quiet (authorized s image op url)
unfolding authorized
quiet_authorized s image op url = quiet_step (url_read (registry_text s.settings image)) _ (λ registry read. quiet_where s image op (goes_to (request_url (serialize url)) registry))

-- ---- the exposed exchanges

no_bodies : (seen c : List Exchange) → EachAfter (λ c request. request.body ≡ []) seen c → bodies c ≡ []
no_bodies seen [] h = refl
no_bodies seen (e ∷ c) h = ap (λ body. part body ++ bodies c) h.0 ∙ no_bodies (seen ++ e ∷ []) c h.1

-- those of a token step before a request
pub token_bodiless : (s : Context) (image : Reference) (op : RegistryOperation) (url : Parts) {old new : Link} {k l : AuthState} {r : Result (Option RegistryTokenType) OciDistributionError} → Meets is_memory (authorized s image op url) old new k l r → Told (λ c. bodies c ≡ []) old new
token_bodiless s image op url {k = k} met =
    let told = Meets-safe (λ c request. request.body ≡ []) Anything AnyAnswer ((quiet_authorized s image op url).safe k []) met in
    record { conversation = told.conversation; told = told.told; holds = no_bodies [] told.conversation told.holds }
