-- A push sends credentials and tokens only to the image's registry and to the realm that it names, wherever the
-- locations of its upload lead.
use Rattle.std.proofs.Common.{◌≡◌, ◌≤◌, inl, inr, ℕ, zero, suc, Bool, true, false, List, [], ◌∷◌, ◌++◌, ◌-◌, Option, Some, None, Result, Ok, Err, codes, length, refl, sym, ap, subst, ◌∙◌}
use Rattle.std.specs.Prelude.{nat_eq, nat_lt, if◌then◌else◌}
use Rattle.url.specs.Parts.{Parts}
use Rattle.url.specs.Setters.{append_query_pairs}
use Rattle.oci_digests.specs.Names.{digest_text}
use Rattle.oci_names.specs.declared.algorithm.Algorithm.TheVariants.{Sha256}
use Rattle.oci_transport.specs.Headers.{values_of, held, first_of, is_text}
use Rattle.oci_transport.specs.Link.{Link}
use Rattle.oci_transport.specs.Urls.{request_url}
use Rattle.oci_transport.specs.declared.message.AnswerHead.{AnswerHead}
use Rattle.oci_transport.specs.declared.message.Request.{Request}
use Rattle.oci_transport.specs.declared.message.Exchange.{Exchange}
use Rattle.oci_transport.specs.declared.message.Method.{Method}
use Rattle.oci_transport.specs.declared.message.Method.TheVariants.{Post, Patch, Put}
use Rattle.oci_names.specs.declared.reference.Reference.{Reference}
use Rattle.oci_auth.specs.declared.auth.RegistryAuth.{RegistryAuth}
use Rattle.oci_auth.specs.declared.auth_state.AuthState.{AuthState}
use Rattle.oci_auth.specs.declared.token_type.RegistryOperation.TheVariants.{Push}
use Rattle.oci_auth.specs.declared.token_type.RegistryTokenType.{RegistryTokenType}
use Rattle.oci_protocol.specs.Proto.{Reply, Headed, Answered, Failed, TooLong, SinkFailed, Done, bind, unless_refused, ◌>>=◌}
use Rattle.oci_protocol.specs.Runs.{Meets, Told}
use Rattle.oci_protocol.specs.Safe.{Safe}
use Rattle.oci_protocol.proofs.Safety.{Safe-bind}
use Rattle.engine_terms.specs.Contexts.{Context}
use Rattle.engine_terms.specs.Error.{is_memory}
use Rattle.engine_terms.specs.declared.error.GenericCause.TheVariants.{HeaderText, SizeDiffers}
use Rattle.engine_terms.specs.declared.error.SpecViolation.TheVariants.{Status}
use Rattle.engine_terms.specs.declared.error.OciDistributionError.{OciDistributionError}
use Rattle.engine_terms.specs.declared.error.OciDistributionError.TheVariants as refusal
use Rattle.engine_terms.specs.declared.settings.Settings.{Settings}
use Rattle.engine_requests.specs.Addresses.{uploads_text, url_or, url_read}
use Rattle.engine_requests.specs.Requests.{request_of}
use Rattle.engine_rows.specs.Causes.{BadHeader}
use Rattle.engine_rows.specs.Rows.{Row, authorized}
use Rattle.engine_rows.specs.Confined.{ToRegistry, Each, Within}
use Rattle.engine_rows.specs.Held.{Entry, asking}
use Rattle.request_laws.proofs.CallConfinement.{call_within}
use Rattle.request_laws.proofs.KeptTokens.{Keeps, keeps_first, keeps_more}
use Rattle.request_laws.proofs.RequestConfinement.{Sent as SentBy, SentValue, each_more, request_values, request_url_is}
use Rattle.request_laws.proofs.SafeKeeps.{Safe-keeps}
use Rattle.request_laws.proofs.PlainRefusals.{Plain}
use Rattle.request_laws.proofs.ShownTokens.{Carries, AuthorizedAt, HeaderCause, MayShowAt, authorized_safe, plain_cause, safe_done, safe_follow, sent_by, shown_at}
use Rattle.push_rows.specs.Calls.{push_chunked, not_empty, push_whole, is_violation, or_whole, push_blob, size_given, of_size, stream_whole, stream_sent, stream_chunked, push_blob_stream, push_blob_stream_chunked, mount_url, mount_blob}
use Rattle.push_rows.specs.Contents.{octet_stream, with_content}
use Rattle.push_rows.specs.Locations.{resolved, location_of, located}
use Rattle.push_rows.specs.Uploads.{unless_success, location_reply, location_after, sent, upload_begun, chunk_sent, upload_ended, chunks, chunks_sent, piece_of, next_piece, no_longer, unless_last, pieces_sent, pieces_read, all_read}
use Rattle.push_rows.specs.declared.content.Content.{Content}
use Rattle.push_rows.specs.declared.content.Content.TheVariants.{Nothing, Whole, Chunk}
use Rattle.push_rows.specs.declared.responses.PushBlobStreamChunkedResponse.{PushBlobStreamChunkedResponse}
use Rattle.push_laws.proofs.PushedHeaders.{content_made}
use Rattle.push_laws.proofs.PushedValues.{OfKind, bare_held, bad_bare, bad_content}

-- what a push begins with
abbrev pub pushing : AuthState → Context → Reference → Option RegistryAuth → Entry
pushing k s image handed = asking k s image Push handed

-- the client state may be sent, and an invalid header value has its cause
abbrev pub Kept : Entry → Settings → List ℕ → {A : Type 0} → AuthState → List Exchange → Result A OciDistributionError → Type 0
Kept x s kind l c (Ok a) = Keeps x l c
Kept x s kind l c (Err e) = Keeps x l c × HeaderCause x s kind c e

-- requests are confined, and so is what they leave; `kind` is the type of the documents that it pushes
pub record Bound (x : Entry) (s : Settings) (kind : List ℕ) {A : Type 0} (p : Row A) : Type 0 where
  pub safe : (l : AuthState) (c : List Exchange) → Keeps x l c → Safe (Carries x s) (Keeps x) (Kept x s kind) l c p

kept_plain : {A : Type 0} (x : Entry) (s : Settings) (kind : List ℕ) (l : AuthState) (c : List Exchange) (r : Result A OciDistributionError) → Keeps x l c → Plain r → Kept x s kind l c r
kept_plain x s kind l c (Ok a) keeps plain = keeps
kept_plain x s kind l c (Err e) keeps plain = (keeps, plain_cause x s kind c e plain)

-- a step without a request, which is not refused for a header value
pub bound_done : {x : Entry} {s : Settings} {kind : List ℕ} {A : Type 0} (r : Result A OciDistributionError) → Plain r → Bound x s kind (Done r)
bound_done {x} {s} {kind} r plain = record { safe = λ l c keeps. safe_done x s (Kept x s kind) l c r (kept_plain x s kind l c r keeps plain) }

pub bound_caught : {x : Entry} {s : Settings} {kind : List ℕ} {A B : Type 0} (p : Row A) (f : Result A OciDistributionError → Row B) → Bound x s kind p → ((l : AuthState) (c : List Exchange) (r : Result A OciDistributionError) → Kept x s kind l c r → Safe (Carries x s) (Keeps x) (Kept x s kind) l c (f r)) → Bound x s kind (bind p f)
bound_caught {x} {s} {kind} p f first each = record { safe = λ l c keeps. Safe-bind (Carries x s) (Keeps x) (Kept x s kind) (Kept x s kind) p f l c (first.safe l c keeps) each }

pub bound_next : {x : Entry} {s : Settings} {kind : List ℕ} {A B : Type 0} (p : Row A) (f : A → Row B) → Bound x s kind p → ((a : A) → Bound x s kind (f a)) → Bound x s kind (p >>= f)
bound_next {x} {s} {kind} {A} {B} p f first each = bound_caught p (unless_refused f) first by_result where
  by_result : (l : AuthState) (c : List Exchange) (r : Result A OciDistributionError) → Kept x s kind l c r → Safe (Carries x s) (Keeps x) (Kept x s kind) l c (unless_refused f r)
  by_result l c (Ok a) h = (each a).safe l c h
  by_result l c (Err e) h = safe_done x s (Kept x s kind {A = B}) l c (Err e) h

pub url_plain : (text : List ℕ) → Plain (url_read text)
url_plain text = by_url (request_url text) where
  by_url : (o : Option Parts) → Plain (url_or text o)
  by_url (Some url) = tt
  by_url None = tt

located_plain : (s : Settings) (image : Reference) (expected : ℕ) (url : List ℕ) (head : AnswerHead) → Plain (located s image expected url head)
unfolding located
located_plain s image expected url head = by_status (nat_eq head.status expected) where
  by_text : (value : List ℕ) (b : Bool) → Plain (if b then Ok (resolved s image value) else Err (refusal.HeaderValueError value))
  by_text value true = tt
  by_text value false = tt

  by_header : (value : Option (List ℕ)) → Plain (location_of s image value)
  by_header None = tt
  by_header (Some value) = by_text value (is_text value)

  by_status : (b : Bool) → Plain (if b then location_of s image (first_of (codes "location") head.headers) else Err (refusal.SpecViolationError (Status expected head.status url)))
  by_status true = by_header (first_of (codes "location") head.headers)
  by_status false = tt

-- ---- one request

module _ (x : Entry) (s : Settings) (kind : List ℕ) where
  carried_on : (seen : List Exchange) (content : Content) (bare request : Request) → with_content content bare ≡ Ok request → SentBy x s seen bare → SentBy x s seen request
  carried_on seen content bare request is h =
      let made = content_made content bare request is in
      subst (Each (SentValue x s seen request)) (sym made.shown_is) (each_more (SentValue x s seen bare) (SentValue x s seen request) (values_of (codes "authorization") bare.headers) (λ value at. (to made.url_is at.0, at.1, at.2, at.3)) h) where
        to : request.url ≡ bare.url → ToRegistry s x.image bare → ToRegistry s x.image request
        to same g = record { registry = g.registry; url = g.url; registry_is = g.registry_is; url_is = ap request_url same ∙ g.url_is; goes = g.goes }

  by_cause : {c : List Exchange} (e : OciDistributionError) → BadHeader x s kind c → HeaderCause x s kind c e
  by_cause (refusal.GenericError HeaderText) bad = bad
  by_cause _ bad = tt

  located_safe : (image : Reference) (expected : ℕ) (request : Request) (l : AuthState) (c : List Exchange) → SentBy x s c request → Keeps x l c → Safe (Carries x s) (Keeps x) (Kept x s kind) l c (location_after s image expected request)
  unfolding location_after
  located_safe image expected request l c sent keeps = safe_follow x s (Kept x s kind) 0 request (unless_success s.max_body_bytes) (location_reply s image expected) l c sent keeps (λ last d e before after other reply h replies. by_reply last reply (d ++ e ∷ []) h) where
    by_reply : (last : Request) (reply : Reply) (d : List Exchange) → Keeps x l d → Safe (Carries x s) (Keeps x) (Kept x s kind) l d (location_reply s image expected last reply)
    by_reply last (Headed head) d h = safe_done x s (Kept x s kind) l d _ (kept_plain x s kind l d (located s image expected last.url head) h (located_plain s image expected last.url head))
    by_reply last (Answered answer) d h = safe_done x s (Kept x s kind {A = List ℕ}) l d _ (h, tt)
    by_reply last Failed d h = safe_done x s (Kept x s kind {A = List ℕ}) l d _ (h, tt)
    by_reply last TooLong d h = safe_done x s (Kept x s kind {A = List ℕ}) l d _ (h, tt)
    by_reply last SinkFailed d h = safe_done x s (Kept x s kind {A = List ℕ}) l d _ (h, tt)

  -- an invalid header value is that of the document's type
  with_cause : (content : Content) (bare : Request) (c : List Exchange) (e : OciDistributionError) → OfKind kind content → held bare.headers ≤ 3 → with_content content bare ≡ Err e → HeaderCause x s kind c e
  with_cause content bare c e of few is = by_cause e (inl (inr (bad_content kind content bare e of few is)))

  with_safe : (image : Reference) (content : Content) (expected : ℕ) (bare : Request) (l : AuthState) (c : List Exchange) → OfKind kind content → held bare.headers ≤ 3 → SentBy x s c bare → Keeps x l c → (r : Result Request OciDistributionError) → with_content content bare ≡ r → Safe (Carries x s) (Keeps x) (Kept x s kind) l c (Done r >>= location_after s image expected)
  unfolding bind
  with_safe image content expected bare l c of few sent keeps (Ok request) is = located_safe image expected request l c (carried_on c content bare request is sent) keeps
  with_safe image content expected bare l c of few sent keeps (Err e) is = safe_done x s (Kept x s kind {A = List ℕ}) l c _ (keeps, with_cause content bare c e of few is)

  made_safe : (image : Reference) (method : Method) (url : Parts) (content : Content) (expected : ℕ) (token : Option RegistryTokenType) (l : AuthState) (c : List Exchange) → OfKind kind content → MayShowAt x s url c token → Keeps x l c → (r : Result Request OciDistributionError) → request_of s method url None token ≡ r
      → Safe (Carries x s) (Keeps x) (Kept x s kind) l c (Done r >>= λ request. Done (with_content content request) >>= location_after s image expected)
  unfolding bind
  made_safe image method url content expected token l c of shown keeps (Ok request) is =
      with_safe image content expected request l c of (bare_held s method url token request is) (subst (Each (SentValue x s c request)) (sym (request_values s method url None token request is)) (sent_by x s url c request token (request_url_is s method url None token request is) shown)) keeps (with_content content request) refl
  made_safe image method url content expected token l c of shown keeps (Err e) is = safe_done x s (Kept x s kind {A = List ℕ}) l c _ (keeps, by_cause e (bad_bare x s method url kind token c e (shown_at x s url c token shown) is))

module _ (k : AuthState) (s : Context) (image : Reference) (handed : Option RegistryAuth) (kind : List ℕ) where
  abbrev X : Entry
  X = pushing k s image handed

  abbrev pub Bounded : {A : Type 0} → Row A → Type 0
  Bounded p = Bound X s.settings kind p

  pub sent_bound : (method : Method) (url : Parts) (content : Content) (expected : ℕ) → OfKind kind content → Bounded (sent s image method url content expected)
  unfolding sent
  sent_bound method url content expected of = record {
    safe = λ l c keeps. Safe-bind (Carries X s.settings) (Keeps X) (λ l c r. Keeps X l c × AuthorizedAt X s.settings kind url l c r) (Kept X s.settings kind) (authorized s image Push url) _ l c
        (Safe-keeps (Carries X s.settings) (Keeps X) (AuthorizedAt X s.settings kind url) (authorized s image Push url) l c (keeps_more X) keeps (authorized_safe X s.settings kind url l c keeps)) (λ l c r h. by_token l c r h);
  } where
    by_token : (l : AuthState) (c : List Exchange) (r : Result (Option RegistryTokenType) OciDistributionError) → Keeps X l c × AuthorizedAt X s.settings kind url l c r
        → Safe (Carries X s.settings) (Keeps X) (Kept X s.settings kind) l c (unless_refused (λ token. Done (request_of s.settings method url None token) >>= λ request. Done (with_content content request) >>= location_after s.settings image expected) r)
    by_token l c (Ok token) h = made_safe X s.settings kind image method url content expected token l c of h.1.1 h.0 (request_of s.settings method url None token) refl
    by_token l c (Err e) h = safe_done X s.settings (Kept X s.settings kind {A = List ℕ}) l c (Err e) h

  -- ---- uploads

  begun_bound : Bounded (upload_begun s image)
  unfolding upload_begun
  begun_bound = bound_next (Done (url_read (uploads_text s.settings image))) _ (bound_done _ (url_plain (uploads_text s.settings image))) (λ url. sent_bound Post url Nothing 202 tt)

  chunk_bound : (location : List ℕ) (start : ℕ) (bytes : List ℕ) → Bounded (chunk_sent s image location start bytes)
  unfolding chunk_sent
  chunk_bound location start bytes = bound_next (Done (url_read location)) _ (bound_done _ (url_plain location)) (λ url. sent_bound Patch url (Chunk start bytes) 202 tt)

  ended_bound : (digest location : List ℕ) (content : Content) → OfKind kind content → Bounded (upload_ended s image digest location content)
  unfolding upload_ended
  ended_bound digest location content of = bound_next (Done (url_read location)) _ (bound_done _ (url_plain location)) (λ url. sent_bound Put (append_query_pairs url ((codes "digest", digest) ∷ [])) content 201 of)

  chunks_bound : (location : List ℕ) (start : ℕ) (parts : List (List ℕ)) → Bounded (chunks_sent s image location start parts)
  unfolding chunks_sent
  chunks_bound location start [] = bound_done (Ok location) tt
  chunks_bound location start (chunk ∷ rest) = bound_next (chunk_sent s image location start chunk) _ (chunk_bound location start chunk) (λ next. chunks_bound next _ rest)

  -- ---- pieces, for any external input

  said_plain : (said : Option (List ℕ)) → Plain (piece_of said)
  said_plain None = tt
  said_plain (Some piece) = tt

  piece_bound : Bounded next_piece
  unfolding next_piece Safe
  piece_bound = record { safe = λ l c keeps said. kept_plain X s.settings kind l c (piece_of said) keeps (said_plain said) }

  longer_plain : (left : ℕ) (piece : List ℕ) → Plain (no_longer left piece)
  longer_plain left piece = by_test (nat_lt left (length piece)) where
    by_test : (b : Bool) → Plain {A = List ℕ} (if b then Err refusal.BodyTooLong else Ok piece)
    by_test true = tt
    by_test false = tt

  last_bound : {A : Type 0} (piece : List ℕ) (end next : Row A) → Bounded end → Bounded next → Bounded (unless_last piece end next)
  last_bound [] end next a b = a
  last_bound (byte ∷ bytes) end next a b = b

  pieces_bound : (n left : ℕ) (location bytes : List ℕ) → Bounded (pieces_sent n left s image location bytes)
  unfolding pieces_sent
  pieces_bound zero left location bytes = bound_done _ tt
  pieces_bound (suc n) left location bytes = bound_next next_piece _ piece_bound (λ piece. bound_next (Done (no_longer left piece)) _ (bound_done _ (longer_plain left piece)) (λ piece.
      last_bound piece _ _ (bound_done _ tt) (bound_next (chunks_sent s image location (length bytes) (chunks piece)) _ (chunks_bound location (length bytes) (chunks piece)) (λ next. pieces_bound n (left - length piece) next (bytes ++ piece)))))

  read_bound : (n left : ℕ) (bytes : List ℕ) → Bounded (pieces_read n left bytes)
  unfolding pieces_read
  read_bound zero left bytes = bound_done _ tt
  read_bound (suc n) left bytes = bound_next next_piece _ piece_bound (λ piece. bound_next (Done (no_longer left piece)) _ (bound_done _ (longer_plain left piece)) (λ piece.
      last_bound piece _ _ (bound_done _ tt) (read_bound n (left - length piece) (bytes ++ piece))))

  -- ---- calls

  chunked_bound : (content digest : List ℕ) → Bounded (push_chunked s image content digest)
  unfolding push_chunked
  chunked_bound content digest = bound_next (upload_begun s image) _ begun_bound (λ location. bound_next (chunks_sent s image location 0 (chunks content)) _ (chunks_bound location 0 (chunks content)) (λ location. ended_bound digest location Nothing tt))

  bytes_plain : (bytes : List ℕ) → Plain (not_empty bytes)
  bytes_plain [] = tt
  bytes_plain (b ∷ bytes) = tt

  whole_bound : (content digest : List ℕ) → Bounded (push_whole s image content digest)
  unfolding push_whole
  whole_bound content digest = bound_next (upload_begun s image) _ begun_bound (λ location. bound_next (Done (not_empty content)) _ (bound_done _ (bytes_plain content)) (λ u. ended_bound digest location (Whole content) tt))

  or_bound : (whole : Row (List ℕ)) → Bounded whole → (l : AuthState) (c : List Exchange) (r : Result (List ℕ) OciDistributionError) → Kept X s.settings kind l c r → Safe (Carries X s.settings) (Keeps X) (Kept X s.settings kind) l c (or_whole whole r)
  or_bound whole bound l c (Ok url) h = safe_done X s.settings (Kept X s.settings kind) l c (Ok url) h
  or_bound whole bound l c (Err e) h = by_test (is_violation e) where
    by_test : (b : Bool) → Safe (Carries X s.settings) (Keeps X) (Kept X s.settings kind) l c (if b then whole else Done (Err e))
    by_test true = bound.safe l c h.0
    by_test false = safe_done X s.settings (Kept X s.settings kind {A = List ℕ}) l c (Err e) h

  pub blob_bound : (content digest : List ℕ) → Bounded (push_blob s image content digest)
  unfolding push_blob
  blob_bound content digest = by_setting s.settings.use_monolithic_push where
    by_setting : (b : Bool) → Bounded (if b then push_whole s image content digest else bind (push_chunked s image content digest) (or_whole (push_whole s image content digest)))
    by_setting true = whole_bound content digest
    by_setting false = bound_caught (push_chunked s image content digest) _ (chunked_bound content digest) (or_bound (push_whole s image content digest) (whole_bound content digest))

  size_plain : (size : Option ℕ) → Plain (size_given size)
  size_plain None = tt
  size_plain (Some size) = tt

  same_plain : (size : ℕ) (bytes : List ℕ) → Plain (of_size size bytes)
  same_plain size bytes = by_test (nat_eq (length bytes) size) where
    by_test : (b : Bool) → Plain {A = List ℕ} (if b then Ok bytes else Err (refusal.GenericError SizeDiffers))
    by_test true = tt
    by_test false = tt

  stream_whole_bound : (digest : List ℕ) (size : Option ℕ) → Bounded (stream_whole s image digest size)
  unfolding stream_whole
  stream_whole_bound digest size = bound_next (Done (size_given size)) _ (bound_done _ (size_plain size)) (λ size. bound_next (upload_begun s image) _ begun_bound (λ location. bound_next (all_read s.settings.max_body_bytes) _ (read_bound _ _ []) (λ bytes.
      bound_next (Done (of_size size bytes)) _ (bound_done _ (same_plain size bytes)) (λ bytes. ended_bound digest location (Whole bytes) tt))))

  stream_sent_bound : Bounded (stream_sent s image)
  unfolding stream_sent
  stream_sent_bound = bound_next (upload_begun s image) _ begun_bound (λ location. pieces_bound _ _ location [])

  stream_chunked_bound : (digest : List ℕ) → Bounded (stream_chunked s image digest)
  unfolding stream_chunked
  stream_chunked_bound digest = bound_next (stream_sent s image) _ stream_sent_bound (λ up. ended_bound digest up.location Nothing tt)

  pub stream_bound : (digest : List ℕ) (size : Option ℕ) → Bounded (push_blob_stream s image digest size)
  unfolding push_blob_stream
  stream_bound digest size = by_setting s.settings.use_monolithic_push where
    by_setting : (b : Bool) → Bounded (if b then stream_whole s image digest size else stream_chunked s image digest)
    by_setting true = stream_whole_bound digest size
    by_setting false = stream_chunked_bound digest

  pub named_bound : Bounded (push_blob_stream_chunked s image)
  unfolding push_blob_stream_chunked
  named_bound = bound_next (stream_sent s image) _ stream_sent_bound (λ up. bound_next (Done (not_empty up.bytes)) _ (bound_done _ (bytes_plain up.bytes)) (λ u. bound_next (upload_ended s image (digest_text Sha256 up.bytes) up.location Nothing) _ (ended_bound _ up.location Nothing tt) (λ url. bound_done _ tt)))

  pub mount_bound : (source : Reference) (digest : List ℕ) → Bounded (mount_blob s image source digest)
  unfolding mount_blob
  mount_bound source digest = bound_next (Done (url_read (uploads_text s.settings image))) _ (bound_done _ (url_plain (uploads_text s.settings image))) (λ url. bound_next (sent s image Post (mount_url source digest url) Nothing 201) _ (sent_bound Post (mount_url source digest url) Nothing 201 tt) (λ location. bound_done _ tt))

-- ---- the exposed exchanges

pub confines : {A : Type 0} (s : Context) (image : Reference) (handed : Option RegistryAuth) (kind : List ℕ) (p : Row A) {old new : Link} {k l : AuthState} {r : Result A OciDistributionError} → Bound (pushing k s image handed) s.settings kind p → Meets is_memory p old new k l r → Told (Within (pushing k s image handed) s.settings l) old new
confines s image handed kind p {k = k} {l = l} bound met = let x = pushing k s image handed in call_within x s.settings (Kept x s.settings kind) l (bound.safe k [] (keeps_first x)) met

pub blob_confined : (s : Context) (image : Reference) (content digest : List ℕ) {old new : Link} {k l : AuthState} {r : Result (List ℕ) OciDistributionError} → Meets is_memory (push_blob s image content digest) old new k l r → Told (Within (pushing k s image None) s.settings l) old new
blob_confined s image content digest {k = k} met = confines s image None octet_stream (push_blob s image content digest) (blob_bound k s image None octet_stream content digest) met

pub stream_confined : (s : Context) (image : Reference) (digest : List ℕ) (size : Option ℕ) {old new : Link} {k l : AuthState} {r : Result (List ℕ) OciDistributionError} → Meets is_memory (push_blob_stream s image digest size) old new k l r → Told (Within (pushing k s image None) s.settings l) old new
stream_confined s image digest size {k = k} met = confines s image None octet_stream (push_blob_stream s image digest size) (stream_bound k s image None octet_stream digest size) met

pub named_confined : (s : Context) (image : Reference) {old new : Link} {k l : AuthState} {r : Result PushBlobStreamChunkedResponse OciDistributionError} → Meets is_memory (push_blob_stream_chunked s image) old new k l r → Told (Within (pushing k s image None) s.settings l) old new
named_confined s image {k = k} met = confines s image None octet_stream (push_blob_stream_chunked s image) (named_bound k s image None octet_stream) met

pub mount_confined : (s : Context) (image source : Reference) (digest : List ℕ) {old new : Link} {k l : AuthState} {r : Result (Unit {0}) OciDistributionError} → Meets is_memory (mount_blob s image source digest) old new k l r → Told (Within (pushing k s image None) s.settings l) old new
mount_confined s image source digest {k = k} met = confines s image None octet_stream (mount_blob s image source digest) (mount_bound k s image None octet_stream source digest) met
