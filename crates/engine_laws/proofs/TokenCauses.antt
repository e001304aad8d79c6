-- Why the call for a token was refused.
use Rattle.std.proofs.Common.{◌≡◌, ◌≢◌, ◌<◌, ◌⊎◌, inl, inr, ℕ, Bool, true, false, List, [], ◌++◌, Option, Some, None, Result, Ok, Err, IfErr, codes, length, refl, sym, ap, subst, ◌∙◌, append-nil}
use Rattle.std.specs.Prelude.{nat_eq, if◌then◌else◌, ok_or}
use Rattle.std.specs.FinMap as map
use Rattle.url.specs.Parts.{Parts}
use Rattle.json_values.specs.Counts.{Increased}
use Rattle.oci_transport.specs.Headers.{Fields, added, held}
use Rattle.oci_transport.specs.Link.{Link, answer_of}
use Rattle.oci_transport.specs.Urls.{request_url}
use Rattle.oci_transport.specs.declared.message.Request.{Request}
use Rattle.oci_transport.specs.declared.message.Answer.{Answer}
use Rattle.oci_transport.specs.declared.message.AnswerHead.{AnswerHead}
use Rattle.oci_transport.specs.declared.message.Exchange.{Exchange}
use Rattle.oci_transport.specs.declared.message.Method.{Method}
use Rattle.oci_transport.specs.declared.message.Method.TheVariants.{Get}
use Rattle.oci_names.specs.declared.reference.Reference.{Reference}
use Rattle.oci_auth.specs.declared.bearer.BearerChallenge.{BearerChallenge}
use Rattle.oci_auth.specs.Cache.{key_of}
use Rattle.oci_auth.specs.Auth.{own_token, unasked, authorization_of}
use Rattle.oci_auth.specs.Kept.{Key}
use Rattle.oci_auth.specs.Token.{token_of}
use Rattle.oci_auth.specs.declared.auth.RegistryAuth.{RegistryAuth}
use Rattle.oci_auth.specs.declared.auth_state.AuthState.{AuthState}
use Rattle.oci_auth.specs.declared.token.RegistryToken.{RegistryToken}
use Rattle.oci_auth.specs.declared.token_type.RegistryOperation.{RegistryOperation}
use Rattle.oci_auth.specs.declared.token_type.RegistryTokenType.{RegistryTokenType}
use Rattle.oci_protocol.specs.Proto.{Reading, limit_of, Reply, Headed, Answered, Failed, TooLong, SinkFailed, Piped, read_none, read_within, Done, ◌>>=◌}
use Rattle.oci_protocol.specs.Runs.{Runs, Meets, Told, head_part}
use Rattle.oci_protocol.specs.EveryRun.{EveryRun, ByResult, Heard}
use Rattle.oci_protocol.proofs.RunFacts.{done_run, EveryRun-done, EveryRun-more, EveryRun-each, EveryRun-step, EveryRun-last, EveryRun-recall, EveryRun-keep, EveryRun-follow}
use Rattle.engine_terms.specs.Contexts.{Context}
use Rattle.engine_terms.specs.declared.settings.Settings.{Settings}
use Rattle.engine_answers.specs.declared.answers.Got.{Got}
use Rattle.engine_terms.specs.declared.error.GenericCause.TheVariants.{HeaderText}
use Rattle.engine_terms.specs.declared.error.OciDistributionError.{OciDistributionError}
use Rattle.engine_terms.specs.declared.error.OciDistributionError.TheVariants as refusal
use Rattle.engine_requests.specs.declared.tokens.Wanted.{Wanted}
use Rattle.engine_requests.specs.declared.tokens.Wanted.TheVariants as wants
use Rattle.json_values.specs.Refusals.{◌>>=◌ as ◌into◌}
use Rattle.engine_terms.specs.Error.{is_memory}
use Rattle.engine_requests.specs.Addresses.{url_or, url_read, base_text}
use Rattle.engine_requests.specs.Requests.{with_header, with_accept, with_token, headers_of, request_of, bare_request}
use Rattle.engine_requests.specs.Tokens.{wanted, realm_url, realm_request, decoded, token_read}
use Rattle.engine_rows.specs.Rows.{Row, recalled, keep, store, with_kept, shown_text, whole_reply, whole, head_reply, head_after, realm_asked, fetched, registry_asked, unasked_or_asked, token_step, kept_text, token_given}
use Rattle.engine_rows.specs.TokenCauses.{LastIs, WithAnswer, LastRealm, TokenUrl, TokenCause}
use Rattle.request_laws.proofs.PreparedRequests.{with_ok}
use Rattle.request_laws.proofs.DocumentCauses.{status_is, status_other}
use Rattle.request_laws.proofs.FaultCounts.{last_after, refusal_told, fault_last}
use Rattle.request_laws.proofs.ShownTokens.{none_held, one_held, refused_value, into_err, unread_never}

-- ---- causes of later exchanges

address_later : (s : Settings) (image : Reference) (c d : List Exchange) (text : List ℕ) → TokenUrl s image d text → TokenUrl s image (c ++ d) text
address_later s image c d text (inl is) = inl is
address_later s image c d text (inr is) = inr (last_after c is)

cause_later : (s : Settings) (image : Reference) (a : RegistryAuth) (now : ℕ) (c d : List Exchange) (e : OciDistributionError) → TokenCause s image a d now e → TokenCause s image a (c ++ d) now e
cause_later s image a now c d (refusal.UrlParseError text) h = (h.0, address_later s image c d text h.1)
cause_later s image a now c d (refusal.GenericError HeaderText) h = h
cause_later s image a now c d refusal.BodyTooLong h = last_after c h
cause_later s image a now c d refusal.TransportFault h = last_after c h
cause_later s image a now c d (refusal.AuthenticationFailure body) h = last_after c h
cause_later s image a now c d (refusal.RegistryTokenDecodeError body) h = last_after c h
cause_later s image a now c d refusal.WantOfMemory h = tt
cause_later s image a now c d e h = absurd h

-- ---- requests

url_cause : (s : Settings) (image : Reference) (a : RegistryAuth) (now : ℕ) (c : List Exchange) (text : List ℕ) (o : Option Parts) (e : OciDistributionError) → TokenUrl s image c text → request_url text ≡ o → url_or text o ≡ Err e → TokenCause s image a c now e
url_cause s image a now c text (Some url) e here found is = absurd (cc is)
url_cause s image a now c text None e here found is = let same : refusal.UrlParseError text ≡ e = cc is in subst (TokenCause s image a c now) same (found, here)

-- a value of the request is not a valid header value
header_is : (headers : Fields) (name value : List ℕ) (e : OciDistributionError) → with_header headers name value ≡ Err e → e ≡ refusal.GenericError HeaderText
header_is headers name value e = by_test _ where
  by_test : (b : Bool) → ◌≡◌ {A = Result Fields OciDistributionError} (ok_or (if b then Some (added headers name value) else None) (refusal.GenericError HeaderText)) (Err e) → e ≡ refusal.GenericError HeaderText
  by_test true is = absurd (cc is)
  by_test false is = cc is

header_cause : (s : Settings) (image : Reference) (a : RegistryAuth) (now : ℕ) (c : List Exchange) (e : OciDistributionError) → e ≡ refusal.GenericError HeaderText → (TokenCause s image a c now (refusal.GenericError HeaderText)) → TokenCause s image a c now e
header_cause s image a now c e is h = subst (TokenCause s image a c now) (sym is) h

token_cause : (s : Settings) (image : Reference) (a : RegistryAuth) (now : ℕ) (c : List Exchange) (token : Option RegistryTokenType) (headers : Fields) (e : OciDistributionError) → (token ≡ None) ⊎ (own_token a ≡ token) → with_header map.empty (codes "user-agent") s.user_agent ≡ Ok headers → with_token token headers ≡ Err e → TokenCause s image a c now e
token_cause s image a now c None headers e own named is = absurd (cc is)
token_cause s image a now c (Some token) headers e (inl none) named is = absurd (cc none)
token_cause s image a now c (Some token) headers e (inr own) named is =
    header_cause s image a now c e (header_is headers (codes "authorization") (authorization_of token) e is) (inr (token, own, refused_value headers (codes "authorization") (authorization_of token) e 1 (ap held (with_ok map.empty (codes "user-agent") s.user_agent headers named) ∙ one_held s.user_agent) refl is))

agent_cause : (s : Settings) (image : Reference) (a : RegistryAuth) (now : ℕ) (c : List Exchange) (e : OciDistributionError) → with_header map.empty (codes "user-agent") s.user_agent ≡ Err e → TokenCause s image a c now e
agent_cause s image a now c e is = header_cause s image a now c e (header_is map.empty (codes "user-agent") s.user_agent e is) (inl (refused_value map.empty (codes "user-agent") s.user_agent e 0 none_held refl is))

listing_is : (r : Result Fields OciDistributionError) (listing : Fields) → (r into with_accept None) ≡ Ok listing → r ≡ Ok listing
listing_is (Ok headers) listing is = is
listing_is (Err e) listing is = absurd (cc is)

listing_err : (r : Result Fields OciDistributionError) (e : OciDistributionError) → (r into with_accept None) ≡ Err e → r ≡ Err e
listing_err (Ok headers) e is = absurd (cc is)
listing_err (Err x) e is = is

request_cause : (s : Settings) (image : Reference) (a : RegistryAuth) (now : ℕ) (c : List Exchange) (method : Method) (url : Parts) (token : Option RegistryTokenType) (e : OciDistributionError) → (token ≡ None) ⊎ (own_token a ≡ token) → request_of s method url None token ≡ Err e → TokenCause s image a c now e
unfolding request_of
request_cause s image a now c method url token e own is = by_headers (into_err (headers_of s None token) (λ headers. Ok (bare_request method url headers)) e is) where
  agent : Result Fields OciDistributionError
  agent = with_header map.empty (codes "user-agent") s.user_agent

  by_listing : ((agent into with_accept None) ≡ Err e) ⊎ ((headers : Fields) × ((agent into with_accept None) ≡ Ok headers) × (with_token token headers ≡ Err e)) → TokenCause s image a c now e
  by_listing (inl refused) = agent_cause s image a now c e (listing_err agent e refused)
  by_listing (inr (headers, listed, refused)) = token_cause s image a now c token headers e own (listing_is agent headers listed) refused

  by_headers : (headers_of s None token ≡ Err e) ⊎ ((headers : Fields) × (headers_of s None token ≡ Ok headers) × (Ok (bare_request method url headers) ≡ Err e)) → TokenCause s image a c now e
  by_headers (inl refused) = by_listing (into_err (agent into with_accept None) (with_token token) e refused)
  by_headers (inr (headers, made, refused)) = absurd (cc refused)

-- ---- ways to send a request

abbrev Any : {A : Type 0} → ℕ → List Exchange → ℕ → A → Type 0
Any m c n x = Unit {0}

abbrev Refused : Settings → Reference → RegistryAuth → ℕ → List Exchange → ℕ → OciDistributionError → Type 0
Refused s image a m c n e = TokenCause s image a c n e

abbrev Shown : Settings → Reference → RegistryAuth → {A : Type 0} → Row A → Type 0
Shown s image a p = EveryRun (ByResult Any (Refused s image a)) p

heard_last : (P : Exchange → Type 0) {request : Request} {reading : AnswerHead → Reading} {m : ℕ} {c : List Exchange} {after : ℕ} {last : Request} {reply : Reply} (h : Heard 0 request reading m c after last reply) → P h.exchange → LastIs P c
heard_last P h holds = record { before = h.redirects; last = h.exchange; split = h.split; holds = holds }

no_limit : (head : AnswerHead) (n : ℕ) → limit_of (read_none head) ≡ Some n → ⊥
unfolding read_none
no_limit head n is = cc is

not_piped : (head : AnswerHead) (n : ℕ) → read_none head ≡ Piped n → ⊥
unfolding read_none
not_piped head n is = cc is

within_limit : (limit n : ℕ) (head : AnswerHead) → limit_of (read_within limit head) ≡ Some n → limit ≡ n
unfolding read_within
within_limit limit n head is = cc is

within_piped : (limit n : ℕ) (head : AnswerHead) → read_within limit head ≡ Piped n → ⊥
unfolding read_within
within_piped limit n head is = cc is

-- the head is that of the last exchange
abbrev LastHead : ℕ → List Exchange → ℕ → AnswerHead → Type 0
LastHead m c n head = LastIs (WithAnswer (λ answer. head_part answer ≡ head)) c

head_run : (s : Settings) (image : Reference) (a : RegistryAuth) (request : Request) (k l : AuthState) (m after o : ℕ) (c d : List Exchange) (last : Request) (reply : Reply) (r : Result AnswerHead OciDistributionError) → Heard 0 request read_none m c after last reply → Runs (head_reply last reply) k after d o l r → ByResult LastHead (Refused s image a) m (c ++ d) o r
head_run s image a request k l m after o c d last (Headed head) r h run = done_run (λ start d o r. ByResult LastHead (Refused s image a) m (c ++ d) o r) (Ok head) k l after o d r (rw append-nil (heard_last (WithAnswer (λ answer. head_part answer ≡ head)) h (answer_of head h.replies.reply_is.0, h.replies.reply_is.1, refl))) run
head_run s image a request k l m after o c d last (Answered answer) r h run = let b = h.replies.reply_is in absurd (no_limit (head_part answer) b.0 b.2)
head_run s image a request k l m after o c d last Failed r h run = done_run (λ start d o r. ByResult LastHead (Refused s image a) m (c ++ d) o r) (Err refusal.TransportFault) k l after o d r (rw append-nil (heard_last (λ e. Increased e.faults after) h h.replies.reply_is)) run
head_run s image a request k l m after o c d last TooLong r h run = let b = h.replies.reply_is in absurd (no_limit (head_part b.0) b.1 b.3)
head_run s image a request k l m after o c d last SinkFailed r h run = let b = h.replies.reply_is in absurd (not_piped (head_part b.0) b.1 b.3)

head_shown : (s : Settings) (image : Reference) (a : RegistryAuth) (request : Request) → EveryRun (ByResult LastHead (Refused s image a)) (head_after 0 request)
unfolding head_after
head_shown s image a request = EveryRun-follow (ByResult LastHead (Refused s image a)) 0 request read_none head_reply (head_run s image a request)

-- the response is that of the last exchange
abbrev LastGot : ℕ → List Exchange → ℕ → Got → Type 0
LastGot m c n got = LastIs (WithAnswer (λ answer. answer ≡ got.answer)) c

whole_run : (s : Settings) (image : Reference) (a : RegistryAuth) (request : Request) (k l : AuthState) (m after o : ℕ) (c d : List Exchange) (last : Request) (reply : Reply) (r : Result Got OciDistributionError) → Heard 0 request (read_within s.max_body_bytes) m c after last reply → Runs (whole_reply last reply) k after d o l r → ByResult LastGot (Refused s image a) m (c ++ d) o r
whole_run s image a request k l m after o c d last (Headed head) r h run = absurd (unread_never s.max_body_bytes head h.replies.reply_is.2)
whole_run s image a request k l m after o c d last (Answered answer) r h run = done_run (λ start d o r. ByResult LastGot (Refused s image a) m (c ++ d) o r) (Ok (record { url = last.url; answer = answer })) k l after o d r (rw append-nil (heard_last (WithAnswer (λ x. x ≡ answer)) h (answer, h.replies.reply_is.1, refl))) run
whole_run s image a request k l m after o c d last Failed r h run = done_run (λ start d o r. ByResult LastGot (Refused s image a) m (c ++ d) o r) (Err refusal.TransportFault) k l after o d r (rw append-nil (heard_last (λ e. Increased e.faults after) h h.replies.reply_is)) run
whole_run s image a request k l m after o c d last TooLong r h run =
    let b = h.replies.reply_is in
    done_run (λ start d o r. ByResult LastGot (Refused s image a) m (c ++ d) o r) (Err refusal.BodyTooLong) k l after o d r (rw append-nil (heard_last (WithAnswer (λ answer. s.max_body_bytes < length answer.body)) h (b.0, b.2, rw (within_limit s.max_body_bytes b.1 (head_part b.0) b.3) b.4))) run
whole_run s image a request k l m after o c d last SinkFailed r h run = let b = h.replies.reply_is in absurd (within_piped s.max_body_bytes b.1 (head_part b.0) b.3)

whole_shown : (s : Settings) (image : Reference) (a : RegistryAuth) (request : Request) → EveryRun (ByResult LastGot (Refused s image a)) (whole 0 request s.max_body_bytes)
unfolding whole
whole_shown s image a request = EveryRun-follow (ByResult LastGot (Refused s image a)) 0 request (read_within s.max_body_bytes) whole_reply (whole_run s image a request)

-- ---- the realm's response

last_more : (P Q : Answer → Type 0) (c : List Exchange) → ((answer : Answer) → P answer → Q answer) → LastIs (WithAnswer P) c → LastIs (WithAnswer Q) c
last_more P Q c more h = record { before = h.before; last = h.last; split = h.split; holds = (h.holds.0, h.holds.1, more h.holds.0 h.holds.2) }

same_body : (answer got : Answer) → answer ≡ got → got.body ≡ answer.body
same_body answer got is = ap (λ (x : Answer). x.body) (sym is)

same_status : (answer got : Answer) → answer ≡ got → answer.status ≡ got.status
same_status answer got is = ap (λ (x : Answer). x.status) is

by_token : (s : Settings) (image : Reference) (a : RegistryAuth) (now : ℕ) (c : List Exchange) (got : Answer) (o : Option RegistryToken) (e : OciDistributionError) → got.status ≡ 200 → token_of got.body ≡ o → LastIs (WithAnswer (λ answer. answer ≡ got)) c → decoded got.body o ≡ Err e → TokenCause s image a c now e
by_token s image a now c got (Some token) e status read last is = absurd (cc is)
by_token s image a now c got None e status read last is =
    let same : refusal.RegistryTokenDecodeError got.body ≡ e = cc is in
    subst (TokenCause s image a c now) same (last_more (λ answer. answer ≡ got) (λ answer. (answer.status ≡ 200) × (got.body ≡ answer.body) × (token_of got.body ≡ None)) c (λ answer is. (same_status answer got is ∙ status, same_body answer got is, read)) last)

by_status : (s : Settings) (image : Reference) (a : RegistryAuth) (now : ℕ) (c : List Exchange) (got : Answer) (b : Bool) (e : OciDistributionError) → nat_eq got.status 200 ≡ b → LastIs (WithAnswer (λ answer. answer ≡ got)) c → (if b then decoded got.body (token_of got.body) else Err (refusal.AuthenticationFailure got.body)) ≡ Err e → TokenCause s image a c now e
by_status s image a now c got true e test last is = by_token s image a now c got (token_of got.body) e (status_is got.status 200 test) refl last is
by_status s image a now c got false e test last is =
    let same : refusal.AuthenticationFailure got.body ≡ e = cc is in
    subst (TokenCause s image a c now) same (last_more (λ answer. answer ≡ got) (λ answer. (answer.status ≢ 200) × (got.body ≡ answer.body)) c (λ answer is. ((λ h. status_other got.status 200 test (sym (same_status answer got is) ∙ h)), same_body answer got is)) last)

read_cause : (s : Settings) (image : Reference) (a : RegistryAuth) (now : ℕ) (c : List Exchange) (got : Got) (e : OciDistributionError) → LastIs (WithAnswer (λ answer. answer ≡ got.answer)) c → token_read got.answer ≡ Err e → TokenCause s image a c now e
read_cause s image a now c got e last is = by_status s image a now c got.answer (nat_eq got.answer.status 200) e refl last is

-- ---- rows

any_more : {A : Type 0} (s : Settings) (image : Reference) (a : RegistryAuth) (c : List Exchange) (m start n : ℕ) (d : List Exchange) (r : Result A OciDistributionError) → ByResult Any (Refused s image a) start d n r → ByResult Any (Refused s image a) m (c ++ d) n r
any_more s image a c m start n d (Ok x) h = tt
any_more s image a c m start n d (Err e) h = cause_later s image a n c d e h

-- after other exchanges
later : {A : Type 0} (s : Settings) (image : Reference) (a : RegistryAuth) (c : List Exchange) (m : ℕ) (p : Row A) → Shown s image a p → EveryRun (λ start d o r. ByResult Any (Refused s image a) m (c ++ d) o r) p
later s image a c m p h = EveryRun-more (ByResult Any (Refused s image a)) (λ start d o r. ByResult Any (Refused s image a) m (c ++ d) o r) p h (λ start o d r h. any_more s image a c m start o d r h)

next_shown : {A B : Type 0} (s : Settings) (image : Reference) (a : RegistryAuth) (p : Row A) (f : A → Row B) → Shown s image a p → ((x : A) → Shown s image a (f x)) → Shown s image a (p >>= f)
next_shown s image a p f h each = EveryRun-each Any Any (Refused s image a) p f h (λ m n c x g. later s image a c m (f x) (each x))

done_shown : {A : Type 0} (s : Settings) (image : Reference) (a : RegistryAuth) (x : A) → Shown s image a (Done (Ok x))
done_shown s image a x = EveryRun-done (ByResult Any (Refused s image a)) (Ok x) (λ m. tt)

-- a token is requested from the realm, after the response that names it
realm_later : (s : Settings) (image : Reference) (a : RegistryAuth) (op : RegistryOperation) (challenge : BearerChallenge) (c : List Exchange) (m : ℕ) → LastRealm c challenge.realm → EveryRun (λ start d o r. ByResult Any (Refused s image a) m (c ++ d) o r) (realm_asked s image a op challenge)
unfolding realm_asked realm_request
realm_later s image a op challenge c m named = EveryRun-step (λ start d o r. ByResult Any (Refused s image a) m (c ++ d) o r) (url_read challenge.realm) _
    (λ url is. later s image a c m _ (EveryRun-step (ByResult Any (Refused s image a)) (request_of s Get (realm_url image op challenge.service url) None (own_token a)) _
    (λ request made. EveryRun-each LastGot Any (Refused s image a) (whole 0 request s.max_body_bytes) (λ got. Done (token_read got.answer)) (whole_shown s image a request)
    (λ m n c got last. EveryRun-last (λ start d o x. Unit {0}) (λ start d o e. TokenCause s image a (c ++ d) o e) (token_read got.answer) (λ x is o. tt) (λ e is o. rw append-nil (read_cause s image a o c got e last is))))
    (λ e is m. request_cause s image a m [] Get (realm_url image op challenge.service url) (own_token a) e (inr refl) is)))
    (λ e is o. rw append-nil (url_cause s image a o c challenge.realm (request_url challenge.realm) e (inr named) refl is))

fetched_later : (s : Settings) (image : Reference) (a : RegistryAuth) (op : RegistryOperation) (head : AnswerHead) (w : Wanted) (c : List Exchange) (m n : ℕ) → wanted head ≡ w → LastHead m c n head → EveryRun (λ start d o r. ByResult Any (Refused s image a) m (c ++ d) o r) (fetched s image a op w)
fetched_later s image a op head wants.Nothing c m n is last = later s image a c m _ (done_shown s image a None)
fetched_later s image a op head wants.Credentials c m n is last = later s image a c m _ (done_shown s image a (own_token a))
fetched_later s image a op head (wants.Token challenge) c m n is last = realm_later s image a op challenge c m (last_more (λ answer. head_part answer ≡ head) (λ answer. (named : BearerChallenge) × (wanted (head_part answer) ≡ wants.Token named) × (challenge.realm ≡ named.realm)) c (λ answer same. (challenge, ap wanted same ∙ is, refl)) last)

registry_shown : (s : Settings) (image : Reference) (a : RegistryAuth) (op : RegistryOperation) → Shown s image a (registry_asked s image a op)
unfolding registry_asked
registry_shown s image a op = EveryRun-step (ByResult Any (Refused s image a)) (url_read (base_text s image)) _
    (λ url is. EveryRun-step (ByResult Any (Refused s image a)) (request_of s Get url None None) _
    (λ request made. EveryRun-each LastHead Any (Refused s image a) (head_after 0 request) (λ head. fetched s image a op (wanted head)) (head_shown s image a request) (λ m n c head last. fetched_later s image a op head (wanted head) c m n refl last))
    (λ e is m. request_cause s image a m [] Get url None e (inl refl) is))
    (λ e is m. url_cause s image a m [] (base_text s image) (request_url (base_text s image)) e (inl refl) refl is)

step_shown : (s : Settings) (image : Reference) (a : RegistryAuth) (op : RegistryOperation) → Shown s image a (token_step s image a op)
step_shown s image a op = by_unasked (unasked a) where
  by_unasked : (o : Option RegistryTokenType) → Shown s image a (unasked_or_asked s image a op o)
  by_unasked (Some token) = done_shown s image a (Some token)
  by_unasked None = registry_shown s image a op

recalled_shown : (s : Settings) (image : Reference) (a : RegistryAuth) → Shown s image a recalled
recalled_shown s image a = EveryRun-recall (ByResult Any (Refused s image a)) _ (λ k. done_shown s image a k)

keep_shown : (s : Settings) (image : Reference) (a : RegistryAuth) (k : AuthState) → Shown s image a (keep k)
keep_shown s image a k = EveryRun-keep (ByResult Any (Refused s image a)) k (Done (Ok tt)) (done_shown s image a tt)

text_shown : (s : Settings) (image : Reference) (a : RegistryAuth) (moment : ℕ) (key : Key) (token : Option RegistryTokenType) → Shown s image a (kept_text moment key token)
text_shown s image a moment key None = done_shown s image a None
text_shown s image a moment key (Some token) = next_shown s image a recalled _ (recalled_shown s image a) (λ k. next_shown s image a (keep (with_kept k key token moment)) _ (keep_shown s image a (with_kept k key token moment)) (λ u. done_shown s image a (shown_text token)))

store_shown : (s : Settings) (image : Reference) (a : RegistryAuth) → Shown s image a (store image a)
unfolding store
store_shown s image a = next_shown s image a recalled _ (recalled_shown s image a) (λ k. keep_shown s image a _)

pub given_shown : (s : Context) (image : Reference) (a : RegistryAuth) (op : RegistryOperation) → Shown s.settings image a (token_given s image a op)
unfolding token_given
given_shown s image a op = next_shown s.settings image a (store image a) _ (store_shown s.settings image a) (λ u. next_shown s.settings image a (token_step s.settings image a op) _ (step_shown s.settings image a op) (λ token. text_shown s.settings image a s.moment (key_of image op) token))

-- ---- results

token_free : (s : Settings) (image : Reference) (a : RegistryAuth) (now : ℕ) (c : List Exchange) (e : OciDistributionError) → is_memory e ≡ true → TokenCause s image a c now e
token_free s image a now c refusal.WantOfMemory is = tt
token_free s image a now c _ is = absurd (cc is)

pub token_reason : (s : Context) (image : Reference) (a : RegistryAuth) (op : RegistryOperation) {old new : Link} {k l : AuthState} {r : Result (Option (List ℕ)) OciDistributionError} → Meets is_memory (token_given s image a op) old new k l r → IfErr r (λ e. Told (λ c. TokenCause s.settings image a c new.faults e) old new)
token_reason s image a op met = refusal_told Any (λ m c n e. TokenCause s.settings image a c n e) (token_given s image a op) (λ m n c e is. token_free s.settings image a n c e is) (given_shown s image a op) met

pub token_fault : (s : Context) (image : Reference) (a : RegistryAuth) (op : RegistryOperation) {old new : Link} {k l : AuthState} {r : Result (Option (List ℕ)) OciDistributionError} → Meets is_memory (token_given s image a op) old new k l r → r ≡ Err refusal.TransportFault → Increased old.faults new.faults
token_fault s image a op met is = fault_last Any (λ m c n e. TokenCause s.settings image a c n e) (token_given s image a op) refusal.TransportFault refl (λ m n c h. h) (given_shown s image a op) (rw is at met)
