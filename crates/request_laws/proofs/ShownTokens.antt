-- Which values may be invalid header values: the user agent, the types, or a token that the call may send.
use Rattle.std.proofs.Common.{◌≡◌, ◌⊎◌, inl, inr, ℕ, Bool, true, false, List, [], ◌∷◌, ◌++◌, Option, Some, None, Result, Ok, Err, codes, length, unwrap_or, refl, sym, ap, subst, ◌∙◌}
use Rattle.std.specs.Prelude.{◌&&◌, nat_lt, sum_by, if◌then◌else◌, ok_or}
use Rattle.std.proofs.lemmas.List.{nil_from_length}
use Rattle.std.specs.FinMap as map
use Rattle.std.specs.FinMap.{entries-insert, len-entries, len-empty, get-empty, put}
use Rattle.std.specs.Cmp.Lexicographic.{nat_list_cmp_total}
use Rattle.url.specs.Parts.{Parts, serialize}
use Rattle.json_values.specs.Places.{by_bytes}
use Rattle.oci_transport.specs.Headers.{Fields, values_of, added, held, is_header_value, has_room}
use Rattle.oci_transport.specs.Urls.{request_url}
use Rattle.oci_transport.specs.declared.message.Request.{Request}
use Rattle.oci_transport.specs.declared.message.AnswerHead.{AnswerHead}
use Rattle.oci_transport.specs.declared.message.Exchange.{Exchange}
use Rattle.oci_transport.specs.declared.message.Method.{Method}
use Rattle.oci_transport.specs.declared.message.Method.TheVariants.{Get}
use Rattle.oci_names.specs.declared.reference.Reference.{Reference}
use Rattle.oci_names.specs.Reference.{resolved_registry}
use Rattle.oci_auth.specs.declared.bearer.BearerChallenge.{BearerChallenge}
use Rattle.oci_auth.specs.Cache.{key_of, token_at}
use Rattle.oci_auth.specs.Auth.{own_token, unasked, authorization_of}
use Rattle.oci_auth.specs.declared.auth.RegistryAuth.{RegistryAuth}
use Rattle.oci_auth.specs.declared.auth_state.AuthState.{AuthState}
use Rattle.oci_auth.specs.declared.token_type.RegistryTokenType.{RegistryTokenType}
use Rattle.oci_auth.proofs.Forms.{unasked_own}
use Rattle.oci_protocol.specs.Proto.{Reading, Unread, read_none, read_within, Reply, Headed, Answered, Failed, TooLong, SinkFailed, Proto, Done, bind, unless_refused, ◌>>=◌}
use Rattle.oci_protocol.specs.Follow.{follow}
use Rattle.oci_protocol.specs.Runs.{Replies}
use Rattle.oci_protocol.specs.Safe.{Safe}
use Rattle.oci_protocol.proofs.Safety.{Safe-bind, Safe-follow, Safe-once}
use Rattle.engine_terms.specs.Contexts.{within}
use Rattle.engine_terms.specs.declared.settings.Settings.{Settings}
use Rattle.engine_answers.specs.declared.answers.Got.{Got}
use Rattle.engine_terms.specs.declared.error.GenericCause.TheVariants.{HeaderText}
use Rattle.engine_terms.specs.declared.error.OciDistributionError.{OciDistributionError}
use Rattle.engine_terms.specs.declared.error.OciDistributionError.TheVariants as refusal
use Rattle.engine_requests.specs.declared.tokens.Wanted.{Wanted}
use Rattle.engine_requests.specs.declared.tokens.Wanted.TheVariants as wants
use Rattle.json_values.specs.Refusals.{◌>>=◌ as ◌into◌}
use Rattle.engine_requests.specs.Addresses.{url_or, url_read, base_text, registry_text}
use Rattle.engine_requests.specs.Requests.{with_header, with_accept, with_token, headers_of, request_of, bare_request}
use Rattle.engine_requests.specs.Tokens.{wanted, realm_request, token_read}
use Rattle.engine_rows.specs.Rows.{Row, store, whole_reply, whole, head_reply, head_after, realm_asked, fetched, registry_asked, unasked_or_asked, token_step, passed_over, taken, token_asked, kept_or_asked, token_by, token_for, goes_to, token_where, authorized, prepared}
use Rattle.request_laws.proofs.PlainRefusals.{IsPlain, Plain}
use Rattle.oci_transport.specs.Urls.{targets}
use Rattle.oci_transport.specs.declared.message.Answer.{Answer}
use Rattle.oci_transport.specs.Link.{answer_of}
use Rattle.oci_protocol.specs.Runs.{head_part}
use Rattle.engine_requests.specs.Tokens.{realm_url}
use Rattle.engine_rows.specs.Held.{Entry, IsAuth, GivenIn, IsHeld}
use Rattle.engine_rows.specs.Confined.{ToRealm, MayCarry, Each, Confined}
use Rattle.request_laws.proofs.RequestConfinement.{values_by, request_values, request_url_is, request_method_is, SentValue, Sent, sent_confined, sent_moves}
use Rattle.request_laws.proofs.SafeMore.{Safe-more}
use Rattle.engine_rows.specs.Causes.{HasBadHeader, HasBadToken, BadHeader}
use Rattle.request_laws.proofs.PreparedRequests.{with_ok, accept_none}
use Rattle.request_laws.proofs.KeptTokens.{Keeps, keeps_more, keeps_stored, keeps_kept}

-- ---- there are few fields

no_entries : map.entries (map.empty {X = List (List ℕ)} {R = by_bytes}) ≡ []
no_entries = nil_from_length _ (sym (len-entries map.empty) ∙ len-empty by_bytes (List (List ℕ)))

pub none_held : held map.empty ≡ 0
none_held = ap (λ (es : List (List ℕ × List (List ℕ))). sum_by (λ e. length e.1) es) no_entries

pub agent_entries : (name : List ℕ) → map.entries (added map.empty (codes "user-agent") name) ≡ (codes "user-agent", name ∷ []) ∷ []
agent_entries name =
    entries-insert nat_list_cmp_total map.empty (codes "user-agent") (values_of (codes "user-agent") map.empty ++ name ∷ []) ∙ ap (λ (es : List (List ℕ × List (List ℕ))). put by_bytes (codes "user-agent") (values_of (codes "user-agent") map.empty ++ name ∷ []) es) no_entries
    ∙ ap (λ (o : Option (List (List ℕ))). (codes "user-agent", unwrap_or o [] ++ name ∷ []) ∷ []) (get-empty by_bytes (codes "user-agent"))

pub one_held : (name : List ℕ) → held (added map.empty (codes "user-agent") name) ≡ 1
one_held name = ap (λ (es : List (List ℕ × List (List ℕ))). sum_by (λ e. length e.1) es) (agent_entries name)

two_held : (name types : List ℕ) → held (added (added map.empty (codes "user-agent") name) (codes "accept") types) ≡ 2
two_held name types =
    let m = added map.empty (codes "user-agent") name in
    ap (λ (es : List (List ℕ × List (List ℕ))). sum_by (λ e. length e.1) es) (entries-insert nat_list_cmp_total m (codes "accept") (values_of (codes "accept") m ++ types ∷ []))
    ∙ ap (λ (es : List (List ℕ × List (List ℕ))). sum_by (λ (e : List ℕ × List (List ℕ)). length e.1) (put by_bytes (codes "accept") (values_of (codes "accept") m ++ types ∷ []) es)) (agent_entries name)
    ∙ ap (λ (xs : List (List ℕ)). sum_by (λ (e : List ℕ × List (List ℕ)). length e.1) (put by_bytes (codes "accept") (xs ++ types ∷ []) ((codes "user-agent", name ∷ []) ∷ []))) (accept_none name)

-- ---- a request that cannot be built

-- the refused value is not a valid header value, since there is room
pub refused_value : (headers : Fields) (name value : List ℕ) (e : OciDistributionError) (n : ℕ) → held headers ≡ n → nat_lt n 1000 ≡ true → with_header headers name value ≡ Err e → is_header_value value ≡ false
refused_value headers name value e n few small = by_test (is_header_value value) refl where
  room : has_room headers ≡ true
  room = ap (λ n. nat_lt n 1000) few ∙ small

  by_both : (both : Bool) → both ≡ true → (ok_or (if both then Some (added headers name value) else None) (refusal.GenericError HeaderText)) ≡ Err e → ⊥
  by_both true is h = cc h
  by_both false is h = cc is

  by_test : (b : Bool) → is_header_value value ≡ b → (ok_or (if b && has_room headers then Some (added headers name value) else None) (refusal.GenericError HeaderText)) ≡ Err e → is_header_value value ≡ false
  by_test true test h = absurd (by_both (has_room headers) room h)
  by_test false test h = test

-- which of two steps returned the error
pub into_err : {A B : Type 0} (r : Result A OciDistributionError) (f : A → Result B OciDistributionError) (e : OciDistributionError) → (r into f) ≡ Err e → (r ≡ Err e) ⊎ ((a : A) × (r ≡ Ok a) × (f a ≡ Err e))
into_err (Ok a) f e is = inr (a, refl, is)
into_err (Err x) f e is = let same : x ≡ e = cc is in inl (ap Err same)

-- the token, if there is one, may be sent
abbrev pub MayShow : Entry → List Exchange → Option RegistryTokenType → Type 0
MayShow x c None = Unit {0}
MayShow x c (Some token) = IsHeld x c token

bad_token : (x : Entry) (c : List Exchange) (token : Option RegistryTokenType) (listing : Fields) (e : OciDistributionError) → MayShow x c token → held listing ≡ 2 → with_token token listing ≡ Err e → HasBadToken x c
bad_token x c None listing e shown two is = absurd (cc is)
bad_token x c (Some token) listing e shown two is = (token, shown, refused_value listing (codes "authorization") (authorization_of token) e 2 two refl is)

listing_held : (s : Settings) (types : List ℕ) (listing : Fields) → (with_header map.empty (codes "user-agent") s.user_agent into with_accept (Some types)) ≡ Ok listing → held listing ≡ 2
listing_held s types listing = by_agent (with_header map.empty (codes "user-agent") s.user_agent) refl where
  by_agent : (r : Result Fields OciDistributionError) → with_header map.empty (codes "user-agent") s.user_agent ≡ r → (r into with_accept (Some types)) ≡ Ok listing → held listing ≡ 2
  by_agent (Ok headers) named is =
      ap held (with_ok headers (codes "accept") types listing is ∙ ap (λ (m : Fields). added m (codes "accept") types) (with_ok map.empty (codes "user-agent") s.user_agent headers named)) ∙ two_held s.user_agent types
  by_agent (Err e) named is = absurd (cc is)

bad_listing : (s : Settings) (types : List ℕ) (e : OciDistributionError) → (with_header map.empty (codes "user-agent") s.user_agent into with_accept (Some types)) ≡ Err e → HasBadHeader s types
bad_listing s types e is = by_step (into_err (with_header map.empty (codes "user-agent") s.user_agent) (with_accept (Some types)) e is) where
  by_step : (with_header map.empty (codes "user-agent") s.user_agent ≡ Err e) ⊎ ((headers : Fields) × (with_header map.empty (codes "user-agent") s.user_agent ≡ Ok headers) × (with_accept (Some types) headers ≡ Err e)) → HasBadHeader s types
  by_step (inl refused) = inl (refused_value map.empty (codes "user-agent") s.user_agent e 0 none_held refl refused)
  by_step (inr (headers, named, refused)) = inr (refused_value headers (codes "accept") types e 1 (ap held (with_ok map.empty (codes "user-agent") s.user_agent headers named) ∙ one_held s.user_agent) refl refused)

pub bad_request : (x : Entry) (s : Settings) (method : Method) (url : Parts) (types : List ℕ) (token : Option RegistryTokenType) (c : List Exchange) (e : OciDistributionError) → MayShow x c token → request_of s method url (Some types) token ≡ Err e → BadHeader x s types c
unfolding request_of
bad_request x s method url types token c e shown is = by_headers (into_err (headers_of s (Some types) token) (λ headers. Ok (bare_request method url headers)) e is) where
  listing : Result Fields OciDistributionError
  listing = with_header map.empty (codes "user-agent") s.user_agent into with_accept (Some types)

  by_listing : (listing ≡ Err e) ⊎ ((headers : Fields) × (listing ≡ Ok headers) × (with_token token headers ≡ Err e)) → BadHeader x s types c
  by_listing (inl refused) = inl (bad_listing s types e refused)
  by_listing (inr (headers, listed, refused)) = inr (bad_token x c token headers e shown (listing_held s types headers listed) refused)

  by_headers : (headers_of s (Some types) token ≡ Err e) ⊎ ((headers : Fields) × (headers_of s (Some types) token ≡ Ok headers) × (Ok (bare_request method url headers) ≡ Err e)) → BadHeader x s types c
  by_headers (inl refused) = by_listing (into_err listing (with_token token) e refused)
  by_headers (inr (headers, made, refused)) = absurd (cc refused)

-- ---- rows

-- credentials and tokens go where they may
abbrev pub Carries : Entry → Settings → AuthState → List Exchange → Request → Type 0
Carries x s k c request = Confined x s c request

abbrev pub HeaderCause : Entry → Settings → List ℕ → List Exchange → OciDistributionError → Type 0
HeaderCause x s types c (refusal.GenericError HeaderText) = BadHeader x s types c
HeaderCause x s types c _ = Unit {0}

-- after an `Ok`, the client state may be sent, and a refusal has its cause
abbrev pub Ended : Entry → Settings → List ℕ → {A : Type 0} → AuthState → List Exchange → Result A OciDistributionError → Type 0
Ended x s types l c (Ok a) = Keeps x l c
Ended x s types l c (Err e) = HeaderCause x s types c e

-- after a token too
abbrev Authorized : Entry → Settings → List ℕ → AuthState → List Exchange → Result (Option RegistryTokenType) OciDistributionError → Type 0
Authorized x s types l c (Ok token) = Keeps x l c × MayShow x c token
Authorized x s types l c (Err e) = HeaderCause x s types c e

-- the token step may be refused for any cause
abbrev pub Asked : Entry → AuthState → List Exchange → Result (Option RegistryTokenType) OciDistributionError → Type 0
Asked x l c (Ok token) = Keeps x l c × MayShow x c token
Asked x l c (Err e) = Keeps x l c

pub plain_cause : (x : Entry) (s : Settings) (types : List ℕ) (c : List Exchange) (e : OciDistributionError) → IsPlain e → HeaderCause x s types c e
plain_cause x s types c (refusal.GenericError HeaderText) plain = absurd plain
plain_cause x s types c _ plain = tt

pub ended_plain : {A : Type 0} (x : Entry) (s : Settings) (types : List ℕ) (l : AuthState) (c : List Exchange) (r : Result A OciDistributionError) → Keeps x l c → Plain r → Ended x s types l c r
ended_plain x s types l c (Ok a) keeps plain = keeps
ended_plain x s types l c (Err e) keeps plain = plain_cause x s types c e plain

pub safe_done : {A : Type 0} (x : Entry) (s : Settings) (Q : AuthState → List Exchange → A → Type 0) (l : AuthState) (c : List Exchange) (a : A) → Q l c a → Safe (Carries x s) (Keeps x) Q l c (Done a)
unfolding Safe
safe_done x s Q l c a h = h

unless_safe : {A B : Type 0} (x : Entry) (s : Settings) (types : List ℕ) (f : A → Row B) → ((l : AuthState) (c : List Exchange) (a : A) → Keeps x l c → Safe (Carries x s) (Keeps x) (Ended x s types) l c (f a)) → (l : AuthState) (c : List Exchange) (r : Result A OciDistributionError) → Ended x s types l c r → Safe (Carries x s) (Keeps x) (Ended x s types) l c (unless_refused f r)
unfolding Safe
unless_safe x s types f each l c (Ok a) h = each l c a h
unless_safe x s types f each l c (Err e) h = h

-- a step, and then what it leads to
pub safe_next : {A B : Type 0} (x : Entry) (s : Settings) (types : List ℕ) (p : Row A) (f : A → Row B) (l : AuthState) (c : List Exchange) → Safe (Carries x s) (Keeps x) (Ended x s types) l c p → ((l : AuthState) (c : List Exchange) (a : A) → Keeps x l c → Safe (Carries x s) (Keeps x) (Ended x s types) l c (f a)) → Safe (Carries x s) (Keeps x) (Ended x s types) l c (p >>= f)
safe_next x s types p f l c h each = Safe-bind (Carries x s) (Keeps x) (Ended x s types) (Ended x s types) p (unless_refused f) l c h (unless_safe x s types f each)

-- a request whose redirects are followed
pub safe_follow : {A : Type 0} (x : Entry) (s : Settings) (Q : AuthState → List Exchange → A → Type 0) (n : ℕ) (request : Request) (reading : AnswerHead → Reading) (next : Request → Reply → Proto AuthState A) (l : AuthState) (c : List Exchange) → Sent x s c request → Keeps x l c
    → ((last : Request) (d : List Exchange) (e : Exchange) (before after : ℕ) (other : AnswerHead → Reading) (reply : Reply) → Keeps x l (d ++ e ∷ []) → Replies last other before e after reply → Safe (Carries x s) (Keeps x) Q l (d ++ e ∷ []) (next last reply)) → Safe (Carries x s) (Keeps x) Q l c (follow n request reading next)
safe_follow x s Q n request reading next l c sent keeps each = Safe-follow (λ k d r. Sent x s d r × Keeps x k d) (Carries x s) (Keeps x) Q n request reading next l c (sent, keeps) (λ d r h. sent_confined x s d r h.0) (λ d e r to head is h. (sent_moves x s d e r to head is h.0, keeps_more x l d (e ∷ []) h.1)) (λ last d e before after other reply h replies. each last d e before after other reply (keeps_more x l d (e ∷ []) h.1) replies)

-- ---- the token step

-- a request of the token step
safe_once : {A : Type 0} (x : Entry) (s : Settings) (Q : AuthState → List Exchange → A → Type 0) (request : Request) (reading : AnswerHead → Reading) (next : Request → Reply → Proto AuthState A) (l : AuthState) (c : List Exchange) → Confined x s c request → Keeps x l c
    → ((e : Exchange) (before after : ℕ) (reply : Reply) → Keeps x l (c ++ e ∷ []) → Replies request reading before e after reply → Safe (Carries x s) (Keeps x) Q l (c ++ e ∷ []) (next request reply)) → Safe (Carries x s) (Keeps x) Q l c (follow 0 request reading next)
safe_once x s Q request reading next l c may keeps each = Safe-once (Carries x s) (Keeps x) Q request reading next l c may (λ e before after reply replies. each e before after reply (keeps_more x l c (e ∷ []) keeps) replies)

-- the head is that of the last exchange, which had this request
abbrev LastHead : Entry → Request → AuthState → List Exchange → Result AnswerHead OciDistributionError → Type 0
LastHead x request l c (Ok head) = Keeps x l c × (before : List Exchange) × (e : Exchange) × (answer : Answer) × (c ≡ before ++ e ∷ []) × (e.request ≡ request) × (e.answer ≡ Some answer) × (head_part answer ≡ head)
LastHead x request l c (Err e) = Keeps x l c

head_last : (x : Entry) (s : Settings) (request : Request) (l : AuthState) (c : List Exchange) → Confined x s c request → Keeps x l c → Safe (Carries x s) (Keeps x) (LastHead x request) l c (head_after 0 request)
unfolding head_after
head_last x s request l c may keeps = safe_once x s (LastHead x request) request read_none head_reply l c may keeps by_reply where
  by_reply : (e : Exchange) (before after : ℕ) (reply : Reply) → Keeps x l (c ++ e ∷ []) → Replies request read_none before e after reply → Safe (Carries x s) (Keeps x) (LastHead x request) l (c ++ e ∷ []) (head_reply request reply)
  by_reply e before after (Headed head) h replies = safe_done x s (LastHead x request) l (c ++ e ∷ []) _ (h, c, e, answer_of head replies.reply_is.0, refl, replies.request_is, replies.reply_is.1, refl)
  by_reply e before after (Answered answer) h replies = safe_done x s (LastHead x request) l (c ++ e ∷ []) _ h
  by_reply e before after Failed h replies = safe_done x s (LastHead x request) l (c ++ e ∷ []) _ h
  by_reply e before after TooLong h replies = safe_done x s (LastHead x request) l (c ++ e ∷ []) _ h
  by_reply e before after SinkFailed h replies = safe_done x s (LastHead x request) l (c ++ e ∷ []) _ h

-- the response of a realm, as one of the conversation
abbrev Answers : Entry → AuthState → List Exchange → Result Got OciDistributionError → Type 0
Answers x l c (Ok got) = Keeps x l c × ((token : RegistryTokenType) → token_read got.answer ≡ Ok (Some token) → GivenIn c token)
Answers x l c (Err e) = Keeps x l c

pub unread_never : (limit : ℕ) (head : AnswerHead) → read_within limit head ≡ Unread → ⊥
unfolding read_within
unread_never limit head is = cc is

realm_answers : (x : Entry) (s : Settings) (request : Request) (limit : ℕ) (l : AuthState) (c : List Exchange) → Confined x s c request → Keeps x l c → Safe (Carries x s) (Keeps x) (Answers x) l c (whole 0 request limit)
unfolding whole
realm_answers x s request limit l c may keeps = safe_once x s (Answers x) request (read_within limit) whole_reply l c may keeps by_reply where
  by_reply : (e : Exchange) (before after : ℕ) (reply : Reply) → Keeps x l (c ++ e ∷ []) → Replies request (read_within limit) before e after reply → Safe (Carries x s) (Keeps x) (Answers x) l (c ++ e ∷ []) (whole_reply request reply)
  by_reply e before after (Headed head) h replies = absurd (unread_never limit head replies.reply_is.2)
  by_reply e before after (Answered answer) h replies = safe_done x s (Answers x) l (c ++ e ∷ []) _ (h, λ token is. record { before = c; exchange = e; after = []; split = refl; answer = answer; answered = replies.reply_is.1; read = is })
  by_reply e before after Failed h replies = safe_done x s (Answers x) l (c ++ e ∷ []) _ h
  by_reply e before after TooLong h replies = safe_done x s (Answers x) l (c ++ e ∷ []) _ h
  by_reply e before after SinkFailed h replies = safe_done x s (Answers x) l (c ++ e ∷ []) _ h

-- a step without a request, which leaves the client state unchanged
kept_step : {A B : Type 0} (x : Entry) (s : Settings) (Q : AuthState → List Exchange → Result B OciDistributionError → Type 0) (r : Result A OciDistributionError) (f : A → Row B) (l : AuthState) (c : List Exchange) → ((e : OciDistributionError) → Q l c (Err e)) → ((a : A) → r ≡ Ok a → Safe (Carries x s) (Keeps x) Q l c (f a)) → Safe (Carries x s) (Keeps x) Q l c (Done r >>= f)
unfolding bind
kept_step x s Q (Ok a) f l c bad each = each a refl
kept_step x s Q (Err e) f l c bad each = safe_done x s Q l c (Err e) (bad e)

-- a token in a realm's response
read_asked : (x : Entry) (l : AuthState) (c : List Exchange) (got : Got) → Keeps x l c → ((token : RegistryTokenType) → token_read got.answer ≡ Ok (Some token) → GivenIn c token) → (r : Result (Option RegistryTokenType) OciDistributionError) → token_read got.answer ≡ r → Asked x l c r
read_asked x l c got keeps given (Ok None) is = (keeps, tt)
read_asked x l c got keeps given (Ok (Some token)) is = (keeps, inr (inr (given token is)))
read_asked x l c got keeps given (Err e) is = keeps

realm_unless : (x : Entry) (s : Settings) (l : AuthState) (c : List Exchange) (r : Result Got OciDistributionError) → Answers x l c r → Safe (Carries x s) (Keeps x) (Asked x) l c (unless_refused (λ got. Done (token_read got.answer)) r)
realm_unless x s l c (Ok got) h = safe_done x s (Asked x) l c _ (read_asked x l c got h.0 h.1 (token_read got.answer) refl)
realm_unless x s l c (Err e) h = safe_done x s (Asked x) l c _ h

-- the URL that a text parses to
read_is : (text : List ℕ) (o : Option Parts) (url : Parts) → request_url text ≡ o → url_or text o ≡ Ok url → request_url text ≡ Some url
read_is text None url reads is = absurd (cc is)
read_is text (Some other) url reads is = let same : other ≡ url = cc is in reads ∙ ap Some same

-- the credentials are sent to the realm that the exchange before names
own_carried : (x : Entry) (s : Settings) (a : RegistryAuth) (c : List Exchange) (request : Request) (token : Option RegistryTokenType) → own_token a ≡ token → IsAuth x a → ToRealm s x.image x.operation c request → Each (MayCarry x s c request) (values_by token)
own_carried x s a c request None is known realm = tt
own_carried x s a c request (Some token) is known realm = (record { goes = inr realm; token = token; held = inl (a, known, is); value_is = refl }, tt)

abbrev NamedRealm : Entry → Settings → BearerChallenge → List Exchange → Type 0
NamedRealm x s challenge c = (url : Parts) → request_url challenge.realm ≡ Some url → (request : Request) → request.method ≡ Get → request.url ≡ serialize (realm_url x.image x.operation challenge.service url) → ToRealm s x.image x.operation c request

realm_confined : (x : Entry) (s : Settings) (a : RegistryAuth) (challenge : BearerChallenge) (url : Parts) (c : List Exchange) (request : Request) → IsAuth x a → NamedRealm x s challenge c → request_url challenge.realm ≡ Some url → realm_request s x.image a x.operation challenge.service url ≡ Ok request → Confined x s c request
unfolding realm_request
realm_confined x s a challenge url c request known named url_is is =
    let to = realm_url x.image x.operation challenge.service url in
    subst (Each (MayCarry x s c request)) (sym (request_values s Get to None (own_token a) request is))
    (own_carried x s a c request (own_token a) refl known (named url url_is request (request_method_is s Get to None (own_token a) request is) (request_url_is s Get to None (own_token a) request is)))

realm_safe : (x : Entry) (s : Settings) (a : RegistryAuth) (challenge : BearerChallenge) (l : AuthState) (c : List Exchange) → IsAuth x a → NamedRealm x s challenge c → Keeps x l c → Safe (Carries x s) (Keeps x) (Asked x) l c (realm_asked s x.image a x.operation challenge)
unfolding realm_asked
realm_safe x s a challenge l c known named keeps = kept_step x s (Asked x) (url_read challenge.realm) _ l c (λ e. keeps) (λ url is. kept_step x s (Asked x) (realm_request s x.image a x.operation challenge.service url) _ l c (λ e. keeps) (λ request made.
    Safe-bind (Carries x s) (Keeps x) (Answers x) (Asked x) (whole 0 request s.max_body_bytes) (unless_refused (λ got. Done (token_read got.answer))) l c
    (realm_answers x s request s.max_body_bytes l c (realm_confined x s a challenge url c request known named (read_is challenge.realm (request_url challenge.realm) url refl is) made) keeps) (realm_unless x s)))

-- the token of credentials that may be sent
own_shown : (x : Entry) (c : List Exchange) (a : RegistryAuth) (token : Option RegistryTokenType) → IsAuth x a → own_token a ≡ token → MayShow x c token
own_shown x c a None known is = tt
own_shown x c a (Some token) known is = inl (a, known, is)

fetched_safe : (x : Entry) (s : Settings) (a : RegistryAuth) (w : Wanted) (l : AuthState) (c : List Exchange) → IsAuth x a → ((challenge : BearerChallenge) → w ≡ wants.Token challenge → NamedRealm x s challenge c) → Keeps x l c → Safe (Carries x s) (Keeps x) (Asked x) l c (fetched s x.image a x.operation w)
fetched_safe x s a wants.Nothing l c known named keeps = safe_done x s (Asked x) l c _ (keeps, tt)
fetched_safe x s a wants.Credentials l c known named keeps = safe_done x s (Asked x) l c _ (keeps, own_shown x c a (own_token a) known refl)
fetched_safe x s a (wants.Token challenge) l c known named keeps = realm_safe x s a challenge l c known (named challenge refl) keeps

head_unless : (x : Entry) (s : Settings) (a : RegistryAuth) (base : Parts) (request : Request) → IsAuth x a → request_url (base_text s x.image) ≡ Some base → request.method ≡ Get → request.url ≡ serialize base → (l : AuthState) (c : List Exchange) (r : Result AnswerHead OciDistributionError) → LastHead x request l c r → Safe (Carries x s) (Keeps x) (Asked x) l c (unless_refused (λ head. fetched s x.image a x.operation (wanted head)) r)
head_unless x s a base request known base_is method_is address_is l c (Ok head) h = fetched_safe x s a (wanted head) l c known (λ challenge named url url_is next by_get asks. record {
  before = h.1;
  exchange = h.2;
  split = h.4;
  base = base;
  base_is = base_is;
  asked_by = ap (λ (q : Request). q.method) h.5 ∙ method_is;
  asked = ap (λ (q : Request). q.url) h.5 ∙ address_is;
  answer = h.3;
  answered = h.6;
  challenge = challenge;
  names = ap wanted h.7 ∙ named;
  realm = url;
  realm_is = url_is;
  by_get = by_get;
  asks = asks;
}) h.0
head_unless x s a base request known base_is method_is address_is l c (Err e) keeps = safe_done x s (Asked x) l c _ keeps

registry_safe : (x : Entry) (s : Settings) (a : RegistryAuth) (l : AuthState) (c : List Exchange) → IsAuth x a → Keeps x l c → Safe (Carries x s) (Keeps x) (Asked x) l c (registry_asked s x.image a x.operation)
unfolding registry_asked
registry_safe x s a l c known keeps = kept_step x s (Asked x) (url_read (base_text s x.image)) _ l c (λ e. keeps) (λ url is. kept_step x s (Asked x) (request_of s Get url None None) _ l c (λ e. keeps) (λ request made.
    Safe-bind (Carries x s) (Keeps x) (LastHead x request) (Asked x) (head_after 0 request) (unless_refused (λ head. fetched s x.image a x.operation (wanted head))) l c
    (head_last x s request l c (subst (Each (MayCarry x s c request)) (sym (request_values s Get url None None request made)) tt) keeps)
    (head_unless x s a url request known (read_is (base_text s x.image) (request_url (base_text s x.image)) url refl is) (request_method_is s Get url None None request made) (request_url_is s Get url None None request made))))

pub step_safe : (x : Entry) (s : Settings) (a : RegistryAuth) (l : AuthState) (c : List Exchange) → IsAuth x a → Keeps x l c → Safe (Carries x s) (Keeps x) (Asked x) l c (token_step s x.image a x.operation)
step_safe x s a l c known keeps = by_unasked (unasked a) refl where
  by_unasked : (o : Option RegistryTokenType) → unasked a ≡ o → Safe (Carries x s) (Keeps x) (Asked x) l c (unasked_or_asked s x.image a x.operation o)
  by_unasked (Some token) is = safe_done x s (Asked x) l c _ (keeps, own_shown x c a (Some token) known (unasked_own a token is))
  by_unasked None is = registry_safe x s a l c known keeps

-- ---- the calls that make it

over_cause : (x : Entry) (s : Settings) (types : List ℕ) (l : AuthState) (c : List Exchange) (e : OciDistributionError) → Keeps x l c → Authorized x s types l c (passed_over e)
over_cause x s types l c refusal.WantOfMemory keeps = tt
over_cause x s types l c _ keeps = (keeps, tt)

taken_safe : (x : Entry) (s : Settings) (types : List ℕ) (l : AuthState) (c : List Exchange) (r : Result (Option RegistryTokenType) OciDistributionError) → Asked x l c r → Safe (Carries x s) (Keeps x) (Authorized x s types) l c (taken x.moment (key_of x.image x.operation) r)
unfolding Safe
taken_safe x s types l c (Ok None) h = h
taken_safe x s types l c (Ok (Some token)) h = let kept = keeps_kept x l c token h.1 h.0 in (kept, (kept, h.1))
taken_safe x s types l c (Err e) h = over_cause x s types l c e h

asked_safe : (x : Entry) (s : Settings) (types : List ℕ) (a : RegistryAuth) (l : AuthState) (c : List Exchange) → IsAuth x a → Keeps x l c → Safe (Carries x s) (Keeps x) (Authorized x s types) l c (token_asked (within s x.moment) x.image x.operation a)
unfolding token_asked
asked_safe x s types a l c known keeps = Safe-bind (Carries x s) (Keeps x) (Asked x) (Authorized x s types) (token_step s x.image a x.operation) (taken x.moment (key_of x.image x.operation)) l c (step_safe x s a l c known keeps) (taken_safe x s types)

by_kept : (x : Entry) (s : Settings) (types : List ℕ) (a : RegistryAuth) (kept : Option RegistryTokenType) (l : AuthState) (c : List Exchange) → IsAuth x a → Keeps x l c → MayShow x c kept → Safe (Carries x s) (Keeps x) (Authorized x s types) l c (kept_or_asked (within s x.moment) x.image x.operation a kept)
by_kept x s types a (Some token) l c known keeps shown = safe_done x s (Authorized x s types) l c _ (keeps, shown)
by_kept x s types a None l c known keeps shown = asked_safe x s types a l c known keeps

by_auth : (x : Entry) (s : Settings) (types : List ℕ) (a : Option RegistryAuth) (kept : Option RegistryTokenType) (l : AuthState) (c : List Exchange) → map.get l.credentials (resolved_registry x.image) ≡ a → Keeps x l c → MayShow x c kept → Safe (Carries x s) (Keeps x) (Authorized x s types) l c (token_by (within s x.moment) x.image x.operation a kept)
by_auth x s types None kept l c is keeps shown = safe_done x s (Authorized x s types) l c _ (keeps, tt)
by_auth x s types (Some a) kept l c is keeps shown = by_kept x s types a kept l c (keeps.credentials a is) keeps shown

kept_shown : (x : Entry) (l : AuthState) (c : List Exchange) (token : Option RegistryTokenType) → Keeps x l c → token_at l.tokens (key_of x.image x.operation) x.moment ≡ token → MayShow x c token
kept_shown x l c None keeps is = tt
kept_shown x l c (Some token) keeps is = keeps.tokens token is

for_safe : (x : Entry) (s : Settings) (types : List ℕ) (l : AuthState) (c : List Exchange) → Keeps x l c → Safe (Carries x s) (Keeps x) (Authorized x s types) l c (token_for (within s x.moment) x.image x.operation)
unfolding token_for Safe bind
for_safe x s types l c keeps = by_auth x s types (map.get l.credentials (resolved_registry x.image)) (token_at l.tokens (key_of x.image x.operation) x.moment) l c refl keeps (kept_shown x l c (token_at l.tokens (key_of x.image x.operation) x.moment) keeps refl)

-- the URL is at the image's registry
abbrev pub GoesTo : Settings → Reference → Parts → Type 0
GoesTo s image url = (registry : Parts) × (to : Parts) × (request_url (registry_text s image) ≡ Some registry) × (request_url (serialize url) ≡ Some to) × (targets to registry ≡ true)

-- the token, if there is one, may be sent there
abbrev pub MayShowAt : Entry → Settings → Parts → List Exchange → Option RegistryTokenType → Type 0
MayShowAt x s url c None = Unit {0}
MayShowAt x s url c (Some token) = GoesTo s x.image url × IsHeld x c token

abbrev pub AuthorizedAt : Entry → Settings → List ℕ → Parts → AuthState → List Exchange → Result (Option RegistryTokenType) OciDistributionError → Type 0
AuthorizedAt x s types url l c (Ok token) = Keeps x l c × MayShowAt x s url c token
AuthorizedAt x s types url l c (Err e) = HeaderCause x s types c e

at_url : (x : Entry) (s : Settings) (url : Parts) (c : List Exchange) (token : Option RegistryTokenType) → GoesTo s x.image url → MayShow x c token → MayShowAt x s url c token
at_url x s url c None goes shown = tt
at_url x s url c (Some token) goes shown = (goes, shown)

authorized_at : (x : Entry) (s : Settings) (types : List ℕ) (url : Parts) → GoesTo s x.image url → (l : AuthState) (c : List Exchange) (r : Result (Option RegistryTokenType) OciDistributionError) → Authorized x s types l c r → AuthorizedAt x s types url l c r
authorized_at x s types url goes l c (Ok token) h = (h.0, at_url x s url c token goes h.1)
authorized_at x s types url goes l c (Err e) h = h

where_goes : (x : Entry) (s : Settings) (types : List ℕ) (url registry : Parts) (o : Option Parts) (l : AuthState) (c : List Exchange) → request_url (registry_text s x.image) ≡ Some registry → request_url (serialize url) ≡ o → goes_to o registry ≡ true → Keeps x l c → Safe (Carries x s) (Keeps x) (AuthorizedAt x s types url) l c (token_for (within s x.moment) x.image x.operation)
where_goes x s types url registry None l c registry_is url_is goes keeps = absurd (cc goes)
where_goes x s types url registry (Some to) l c registry_is url_is goes keeps = Safe-more (Carries x s) (Keeps x) (Keeps x) (Authorized x s types) (AuthorizedAt x s types url) (token_for (within s x.moment) x.image x.operation) (λ k d h. h) (authorized_at x s types url (registry, to, registry_is, url_is, goes)) l c (for_safe x s types l c keeps)

where_safe : (x : Entry) (s : Settings) (types : List ℕ) (url registry : Parts) (b : Bool) (l : AuthState) (c : List Exchange) → request_url (registry_text s x.image) ≡ Some registry → goes_to (request_url (serialize url)) registry ≡ b → Keeps x l c → Safe (Carries x s) (Keeps x) (AuthorizedAt x s types url) l c (token_where (within s x.moment) x.image x.operation b)
where_safe x s types url registry true l c registry_is goes keeps = where_goes x s types url registry (request_url (serialize url)) l c registry_is refl goes keeps
where_safe x s types url registry false l c registry_is goes keeps = safe_done x s (AuthorizedAt x s types url) l c _ (keeps, tt)

pub url_safe : {B : Type 0} (x : Entry) (s : Settings) (Q : AuthState → List Exchange → Result B OciDistributionError → Type 0) (text : List ℕ) (f : Parts → Row B) (l : AuthState) (c : List Exchange) (o : Option Parts) → request_url text ≡ o → Q l c (Err (refusal.UrlParseError text)) → ((url : Parts) → request_url text ≡ Some url → Safe (Carries x s) (Keeps x) Q l c (f url)) → Safe (Carries x s) (Keeps x) Q l c (Done (url_or text o) >>= f)
unfolding bind
url_safe x s Q text f l c (Some url) is bad each = each url is
url_safe x s Q text f l c None is bad each = safe_done x s Q l c _ bad

pub authorized_safe : (x : Entry) (s : Settings) (types : List ℕ) (url : Parts) (l : AuthState) (c : List Exchange) → Keeps x l c → Safe (Carries x s) (Keeps x) (AuthorizedAt x s types url) l c (authorized (within s x.moment) x.image x.operation url)
unfolding authorized
authorized_safe x s types url l c keeps = url_safe x s (AuthorizedAt x s types url) (registry_text s x.image) _ l c (request_url (registry_text s x.image)) refl tt (λ registry registry_is. where_safe x s types url registry (goes_to (request_url (serialize url)) registry) l c registry_is refl keeps)

-- the request goes to the registry with the token that it contains
abbrev pub Ready : Entry → Settings → List ℕ → AuthState → List Exchange → Result Request OciDistributionError → Type 0
Ready x s types l c (Ok request) = Keeps x l c × Sent x s c request
Ready x s types l c (Err e) = HeaderCause x s types c e

pub sent_by : (x : Entry) (s : Settings) (url : Parts) (c : List Exchange) (request : Request) (token : Option RegistryTokenType) → request.url ≡ serialize url → MayShowAt x s url c token → Each (SentValue x s c request) (values_by token)
sent_by x s url c request None is shown = tt
sent_by x s url c request (Some token) is shown = ((record { registry = shown.0.0; url = shown.0.1; registry_is = shown.0.2; url_is = ap request_url is ∙ shown.0.3; goes = shown.0.4 }, token, shown.1, refl), tt)

pub shown_at : (x : Entry) (s : Settings) (url : Parts) (c : List Exchange) (token : Option RegistryTokenType) → MayShowAt x s url c token → MayShow x c token
shown_at x s url c None shown = tt
shown_at x s url c (Some token) shown = shown.1

pub request_ready : (x : Entry) (s : Settings) (method : Method) (url : Parts) (types : List ℕ) (token : Option RegistryTokenType) (l : AuthState) (c : List Exchange) → Keeps x l c → MayShowAt x s url c token → (r : Result Request OciDistributionError) → request_of s method url (Some types) token ≡ r → Ready x s types l c r
request_ready x s method url types token l c keeps shown (Ok request) is = (keeps, subst (Each (SentValue x s c request)) (sym (request_values s method url (Some types) token request is)) (sent_by x s url c request token (request_url_is s method url (Some types) token request is) shown))
request_ready x s method url types token l c keeps shown (Err e) is = by_cause e (bad_request x s method url types token c e (shown_at x s url c token shown) is) where
  by_cause : (e : OciDistributionError) → BadHeader x s types c → HeaderCause x s types c e
  by_cause (refusal.GenericError HeaderText) bad = bad
  by_cause _ bad = tt

token_unless : (x : Entry) (s : Settings) (method : Method) (url : Parts) (types : List ℕ) (l : AuthState) (c : List Exchange) (r : Result (Option RegistryTokenType) OciDistributionError) → AuthorizedAt x s types url l c r → Safe (Carries x s) (Keeps x) (Ready x s types) l c (unless_refused (λ token. Done (request_of s method url (Some types) token)) r)
token_unless x s method url types l c (Ok token) h = safe_done x s (Ready x s types) l c _ (request_ready x s method url types token l c h.0 h.1 (request_of s method url (Some types) token) refl)
token_unless x s method url types l c (Err e) h = safe_done x s (Ready x s types) l c _ h

pub prepared_safe : (x : Entry) (s : Settings) (method : Method) (url : Parts) (types : List ℕ) (l : AuthState) (c : List Exchange) → Keeps x l c → Safe (Carries x s) (Keeps x) (Ready x s types) l c (prepared (within s x.moment) x.image x.operation method url types)
unfolding prepared
prepared_safe x s method url types l c keeps = Safe-bind (Carries x s) (Keeps x) (AuthorizedAt x s types url) (Ready x s types) (authorized (within s x.moment) x.image x.operation url) (unless_refused (λ token. Done (request_of s method url (Some types) token))) l c (authorized_safe x s types url l c keeps) (token_unless x s method url types)

ready_unless : {B : Type 0} (x : Entry) (s : Settings) (types : List ℕ) (f : Request → Row B) → ((l : AuthState) (c : List Exchange) (request : Request) → Keeps x l c → Sent x s c request → Safe (Carries x s) (Keeps x) (Ended x s types) l c (f request)) → (l : AuthState) (c : List Exchange) (r : Result Request OciDistributionError) → Ready x s types l c r → Safe (Carries x s) (Keeps x) (Ended x s types) l c (unless_refused f r)
ready_unless x s types f each l c (Ok request) h = each l c request h.0 h.1
ready_unless x s types f each l c (Err e) h = safe_done x s (Ended x s types) l c _ h

-- a request that is built, and what it leads to
pub safe_ready : {B : Type 0} (x : Entry) (s : Settings) (types : List ℕ) (p : Row Request) (f : Request → Row B) (l : AuthState) (c : List Exchange) → Safe (Carries x s) (Keeps x) (Ready x s types) l c p → ((l : AuthState) (c : List Exchange) (request : Request) → Keeps x l c → Sent x s c request → Safe (Carries x s) (Keeps x) (Ended x s types) l c (f request)) → Safe (Carries x s) (Keeps x) (Ended x s types) l c (p >>= f)
safe_ready x s types p f l c h each = Safe-bind (Carries x s) (Keeps x) (Ready x s types) (Ended x s types) p (unless_refused f) l c h (ready_unless x s types f each)

-- credentials that are passed in are stored
pub store_safe : (x : Entry) (s : Settings) (types : List ℕ) (a : RegistryAuth) (l : AuthState) (c : List Exchange) → x.handed ≡ Some a → Keeps x l c → Safe (Carries x s) (Keeps x) (Ended x s types) l c (store x.image a)
unfolding store Safe bind
store_safe x s types a l c handed keeps = let kept = keeps_stored x l c a handed keeps in (kept, kept)

-- a step without a request, which is not refused for a header value
pub plain_step : {A B : Type 0} (x : Entry) (s : Settings) (types : List ℕ) (r : Result A OciDistributionError) (f : A → Row B) (l : AuthState) (c : List Exchange) → Plain r → ((a : A) → r ≡ Ok a → Safe (Carries x s) (Keeps x) (Ended x s types) l c (f a)) → Safe (Carries x s) (Keeps x) (Ended x s types) l c (Done r >>= f)
unfolding bind
plain_step x s types (Ok a) f l c plain each = each a refl
plain_step x s types (Err e) f l c plain each = safe_done x s (Ended x s types) l c (Err e) (plain_cause x s types c e plain)

pub plain_last : {A : Type 0} (x : Entry) (s : Settings) (types : List ℕ) (r : Result A OciDistributionError) (l : AuthState) (c : List Exchange) → Plain r → Keeps x l c → Safe (Carries x s) (Keeps x) (Ended x s types) l c (Done r)
plain_last x s types r l c plain keeps = safe_done x s (Ended x s types) l c r (ended_plain x s types l c r keeps plain)

pub url_first : {B : Type 0} (x : Entry) (s : Settings) (types text : List ℕ) (f : Parts → Row B) (l : AuthState) (c : List Exchange) → ((url : Parts) → Safe (Carries x s) (Keeps x) (Ended x s types) l c (f url)) → Safe (Carries x s) (Keeps x) (Ended x s types) l c (Done (url_read text) >>= f)
url_first x s types text f l c each = url_safe x s (Ended x s types) text f l c (request_url text) refl tt (λ url is. each url)
