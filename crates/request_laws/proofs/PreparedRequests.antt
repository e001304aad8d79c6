-- What the requests of a client are, and which requests its token step sends before them.
use Rattle.std.proofs.Common.{◌≡◌, ℕ, zero, Bool, true, false, List, [], ◌∷◌, ◌++◌, Option, Some, None, Result, Ok, Err, codes, unwrap_or, refl, sym, ap, subst, ◌∙◌, append-nil}
use Rattle.std.specs.Prelude.{◌&&◌, if◌then◌else◌, ok_or}
use Rattle.std.specs.FinMap as map
use Rattle.std.specs.FinMap.{get-insert, get-empty}
use Rattle.std.specs.Cmp.Lexicographic.{nat_list_cmp_total}
use Rattle.url.specs.Parts.{Parts, serialize}
use Rattle.json_values.specs.Places.{by_bytes}
use Rattle.oci_transport.specs.Headers.{Fields, values_of, added, is_header_value, has_room}
use Rattle.oci_transport.specs.Urls.{request_url}
use Rattle.oci_transport.specs.declared.message.Request.{Request}
use Rattle.oci_transport.specs.Link.{answer_of}
use Rattle.oci_transport.specs.declared.message.Answer.{Answer}
use Rattle.oci_transport.specs.declared.message.AnswerHead.{AnswerHead}
use Rattle.oci_transport.specs.declared.message.Exchange.{Exchange}
use Rattle.oci_transport.specs.declared.message.Method.{Method}
use Rattle.oci_transport.specs.declared.message.Method.TheVariants.{Get}
use Rattle.oci_names.specs.declared.reference.Reference.{Reference}
use Rattle.oci_names.specs.Reference.{resolved_registry}
use Rattle.oci_auth.specs.declared.auth.RegistryAuth.{RegistryAuth}
use Rattle.oci_auth.specs.declared.auth_state.AuthState.{AuthState}
use Rattle.oci_auth.specs.Auth.{unasked}
use Rattle.oci_auth.specs.AuthState.{stored}
use Rattle.oci_auth.specs.Cache.{key_of, token_at}
use Rattle.oci_auth.specs.Kept.{Key}
use Rattle.oci_auth.specs.declared.token_type.RegistryOperation.{RegistryOperation}
use Rattle.oci_auth.specs.declared.token_type.RegistryTokenType.{RegistryTokenType}
use Rattle.oci_auth.specs.declared.bearer.BearerChallenge.{BearerChallenge}
use Rattle.oci_protocol.specs.Proto.{Reading, read_within, Reply, Headed, Answered, Failed, TooLong, SinkFailed, read_none, Proto, Done, bind, unless_refused, ◌>>=◌}
use Rattle.oci_protocol.specs.Follow.{Trail}
use Rattle.oci_protocol.specs.Runs.{Runs, head_part}
use Rattle.oci_protocol.specs.EveryRun.{EveryRun, ByResult, WhenOk, Heard}
use Rattle.oci_protocol.proofs.RunFacts.{done_run, EveryRun-done, EveryRun-more, EveryRun-bind, EveryRun-next, EveryRun-step, EveryRun-last, EveryRun-recall, EveryRun-keep, EveryRun-follow}
use Rattle.engine_terms.specs.Contexts.{Context}
use Rattle.engine_terms.specs.declared.settings.Settings.{Settings}
use Rattle.engine_terms.specs.declared.error.GenericCause.TheVariants.{HeaderText}
use Rattle.engine_terms.specs.declared.error.OciDistributionError.TheVariants as refusal
use Rattle.json_values.specs.Refusals.{◌>>=◌ as ◌into◌}
use Rattle.engine_requests.specs.Addresses.{url_or, url_read, base_text, registry_text}
use Rattle.engine_requests.specs.Requests.{with_header, with_accept, with_token, headers_of, request_of, bare_request}
use Rattle.engine_requests.specs.Tokens.{wanted, realm_request, token_read}
use Rattle.engine_requests.specs.declared.tokens.Wanted.{Wanted}
use Rattle.engine_requests.specs.declared.tokens.Wanted.TheVariants as wants
use Rattle.engine_terms.specs.declared.error.OciDistributionError.{OciDistributionError}
use Rattle.engine_rows.specs.Rows.{whole_reply, whole, head_reply, head_after, recalled, store, realm_asked, fetched, registry_asked, unasked_or_asked, token_step, with_kept, passed_over, taken, token_asked, kept_or_asked, token_by, token_for, goes_to, token_where, authorized, prepared}
use Rattle.engine_rows.specs.Answered.{AsksRegistry, AsksRealm, OfTokenStep, Asks}

-- ---- how a request is built

pub accept_none : (name : List ℕ) → values_of (codes "accept") (added map.empty (codes "user-agent") name) ≡ []
accept_none name =
    ap (λ (o : Option (List (List ℕ))). unwrap_or o []) (get-insert nat_list_cmp_total map.empty (codes "user-agent") (values_of (codes "user-agent") map.empty ++ name ∷ []) (codes "accept") ∙ get-empty by_bytes (codes "accept"))

pub with_ok : (headers : Fields) (name value : List ℕ) (made : Fields) → with_header headers name value ≡ Ok made → made ≡ added headers name value
with_ok headers name value made = by_test (is_header_value value && has_room headers) where
  by_test : (b : Bool) → (ok_or (if b then Some (added headers name value) else None) (refusal.GenericError HeaderText)) ≡ Ok made → made ≡ added headers name value
  by_test true is = cc
  by_test false is = cc

-- steps that returned `Ok`
pub into_ok : {A B E : Type 0} (r : Result A E) (f : A → Result B E) (b : B) → (r into f) ≡ Ok b → (a : A) × (r ≡ Ok a) × (f a ≡ Ok b)
into_ok (Ok a) f b is = (a, refl, is)
into_ok (Err e) f b is = cc

-- a request that was built
pub record Made (s : Settings) (method : Method) (url : Parts) (types : Option (List ℕ)) (token : Option RegistryTokenType) (request : Request) : Type 0 where
  pub headers : Fields
  pub is : request ≡ bare_request method url headers
  pub listing : Fields
  pub listed : with_accept types (added map.empty (codes "user-agent") s.user_agent) ≡ Ok listing
  pub shown : with_token token listing ≡ Ok headers

pub made_of : (s : Settings) (method : Method) (url : Parts) (types : Option (List ℕ)) (token : Option RegistryTokenType) (request : Request) → request_of s method url types token ≡ Ok request → Made s method url types token request
unfolding request_of
made_of s method url types token request is =
    let three = into_ok (headers_of s types token) (λ headers. Ok (bare_request method url headers)) request is in
    let two = into_ok (with_header map.empty (codes "user-agent") s.user_agent into with_accept types) (with_token token) three.0 three.1 in
    let one = into_ok (with_header map.empty (codes "user-agent") s.user_agent) (with_accept types) two.0 two.1 in
    record {
      headers = three.0;
      is = cc (three.2);
      listing = two.0;
      listed = subst (λ (h : Fields). with_accept types h ≡ Ok two.0) (with_ok map.empty (codes "user-agent") s.user_agent one.0 one.1) one.2;
      shown = two.2;
    }

-- it has this method, URL and types
pub asks_of : (s : Settings) (method : Method) (url : Parts) (types : Option (List ℕ)) (token : Option RegistryTokenType) (request : Request) → request_of s method url types token ≡ Ok request → Asks s method url types request
asks_of s method url types token request is =
    let made = made_of s method url types token request is in
    record {
      method_is = ap (λ (r : Request). r.method) made.is;
      address_is = ap (λ (r : Request). r.url) made.is;
      token = token;
      made = is;
    }

-- ---- steps that send no request

abbrev pub Silent : {A : Type 0} → ℕ → List Exchange → ℕ → A → Type 0
Silent m c n a = c ≡ []

pub silent_done : {A : Type 0} (a : A) → EveryRun {K = AuthState} Silent (Done a)
silent_done a = EveryRun-done Silent a (λ m. refl)

silent_recalled : EveryRun Silent recalled
silent_recalled = EveryRun-recall Silent _ (λ k. silent_done (Ok k))

silent_taken : (moment : ℕ) (key : Key) (r : Result (Option RegistryTokenType) OciDistributionError) → EveryRun Silent (taken moment key r)
silent_taken moment key (Ok None) = silent_done (Ok None)
silent_taken moment key (Ok (Some token)) = EveryRun-recall Silent _ (λ k. EveryRun-keep Silent (with_kept k key token moment) (Done (Ok (Some token))) (silent_done (Ok (Some token))))
silent_taken moment key (Err e) = silent_done (passed_over e)

-- before the exchanges with P, and after them
silent_first : (P : List Exchange → Type 0) {A B E : Type 0} (p : Proto AuthState (Result A E)) (f : A → Proto AuthState (Result B E)) → P [] → EveryRun Silent p → ((a : A) → EveryRun (λ m c n b. P c) (f a)) → EveryRun (λ m c n b. P c) (p >>= f)
silent_first P {A} {B} {E} p f none first each = EveryRun-bind Silent (λ m c n b. P c) p (unless_refused f) first (λ m n c r h. EveryRun-more (λ s d o b. P d) (λ s d o b. P (c ++ d)) (unless_refused f r) (by_result r) (λ s o d b g. subst (λ (x : List Exchange). P (x ++ d)) (sym h) g)) where
  by_result : (r : Result A E) → EveryRun (λ m c n b. P c) (unless_refused f r)
  by_result (Ok a) = each a
  by_result (Err e) = EveryRun-done (λ m c n b. P c) (Err e) (λ m. none)

silent_last : (P : List Exchange → Type 0) {A B : Type 0} (p : Proto AuthState A) (f : A → Proto AuthState B) → EveryRun (λ m c n a. P c) p → ((a : A) → EveryRun Silent (f a)) → EveryRun (λ m c n b. P c) (bind p f)
silent_last P p f first each = EveryRun-bind (λ m c n a. P c) (λ m c n b. P c) p f first (λ m n c a h. EveryRun-more Silent (λ s d o b. P (c ++ d)) (f a) (each a) (λ s o d b g. subst (λ (x : List Exchange). P (c ++ x)) (sym g) (subst P (sym (append-nil c)) h)))

silent_unless : {A B E : Type 0} (f : A → Proto AuthState (Result B E)) → ((a : A) → EveryRun Silent (f a)) → (r : Result A E) → EveryRun Silent (unless_refused f r)
silent_unless f each (Ok a) = each a
silent_unless f each (Err e) = silent_done (Err e)

pub silent_store : (image : Reference) (a : RegistryAuth) → EveryRun Silent (store image a)
unfolding store
silent_store image a = silent_first (λ c. c ≡ []) recalled _ refl silent_recalled (λ k. EveryRun-keep Silent (stored k (resolved_registry image) a) (Done (Ok tt)) (silent_done (Ok tt)))

-- ---- one request whose redirects are not followed

record One (request : Request) (c : List Exchange) : Type 0 where
  exchange : Exchange
  split : c ≡ exchange ∷ []
  request_is : exchange.request ≡ request

pub one_heard : (request last : Request) {reading : AnswerHead → Reading} (m after : ℕ) (c : List Exchange) (reply : Reply) (h : Heard zero request reading m c after last reply) → (c ≡ h.exchange ∷ []) × (h.exchange.request ≡ request)
unfolding Trail
one_heard request last m after c reply h = by_trail h.redirects h.split h.trail where
  by_trail : (redirects : List Exchange) → c ≡ redirects ++ h.exchange ∷ [] → Trail zero request m redirects h.left last h.before → (c ≡ h.exchange ∷ []) × (h.exchange.request ≡ request)
  by_trail [] split trail = (split, h.replies.request_is ∙ sym trail.1)
  by_trail (e ∷ redirects) split trail = absurd trail

one_of : (request last : Request) {reading : AnswerHead → Reading} (m after : ℕ) (c : List Exchange) (reply : Reply) (h : Heard zero request reading m c after last reply) → One request (c ++ [])
one_of request last m after c reply h = let one = one_heard request last m after c reply h in record { exchange = h.exchange; split = append-nil c ∙ one.0; request_is = one.1 }

-- the response has this head
record OneHead (request : Request) (c : List Exchange) (head : AnswerHead) : Type 0 where
  exchange : Exchange
  split : c ≡ exchange ∷ []
  request_is : exchange.request ≡ request
  answer : Answer
  answered : exchange.answer ≡ Some answer
  head_is : head_part answer ≡ head

abbrev HeadShown : Request → ℕ → List Exchange → ℕ → Result AnswerHead OciDistributionError → Type 0
HeadShown request = ByResult (λ m c n head. OneHead request c head) (λ m c n e. One request c)

head_run : (request : Request) (k l : AuthState) (m after o : ℕ) (c d : List Exchange) (last : Request) (reply : Reply) (r : Result AnswerHead OciDistributionError) → Heard 0 request read_none m c after last reply → Runs (head_reply last reply) k after d o l r → HeadShown request m (c ++ d) o r
head_run request k l m after o c d last (Headed head) r h run =
    let b = h.replies.reply_is in
    let one = one_heard request last m after c (Headed head) h in
    done_run (λ start d o r. HeadShown request m (c ++ d) o r) (Ok head) k l after o d r (record { exchange = h.exchange; split = append-nil c ∙ one.0; request_is = one.1; answer = answer_of head b.0; answered = b.1; head_is = refl }) run
head_run request k l m after o c d last (Answered answer) r h run = done_run (λ start d o r. HeadShown request m (c ++ d) o r) (Err refusal.TransportFault) k l after o d r (one_of request last m after c (Answered answer) h) run
head_run request k l m after o c d last Failed r h run = done_run (λ start d o r. HeadShown request m (c ++ d) o r) (Err refusal.TransportFault) k l after o d r (one_of request last m after c Failed h) run
head_run request k l m after o c d last TooLong r h run = done_run (λ start d o r. HeadShown request m (c ++ d) o r) (Err refusal.TransportFault) k l after o d r (one_of request last m after c TooLong h) run
head_run request k l m after o c d last SinkFailed r h run = done_run (λ start d o r. HeadShown request m (c ++ d) o r) (Err refusal.TransportFault) k l after o d r (one_of request last m after c SinkFailed h) run

head_shown : (request : Request) → EveryRun (HeadShown request) (head_after 0 request)
unfolding head_after
head_shown request = EveryRun-follow (HeadShown request) 0 request read_none head_reply (head_run request)

-- the result of the reply sends no further request
whole_silent : (last : Request) (reply : Reply) → EveryRun Silent (whole_reply last reply)
whole_silent last (Headed head) = silent_done _
whole_silent last (Answered answer) = silent_done _
whole_silent last Failed = silent_done _
whole_silent last TooLong = silent_done _
whole_silent last SinkFailed = silent_done _

whole_shown : (request : Request) (limit : ℕ) → EveryRun (λ m c n r. One request c) (whole 0 request limit)
unfolding whole
whole_shown request limit = EveryRun-follow (λ m c n r. One request c) 0 request (read_within limit) whole_reply (λ k l m after o c d last reply r h run. subst (λ (x : List Exchange). One request (c ++ x)) (sym ((whole_silent last reply).shows k l after o d r run)) (one_of request last m after c reply h))

-- ---- the requests of the token step

url_some : (text : List ℕ) (o : Option Parts) (url : Parts) → url_or text o ≡ Ok url → o ≡ Some url
url_some text (Some found) url is = cc is
url_some text None url is = absurd (cc is)

-- after the registry's response: nothing, or the request for the required realm
abbrev Behind : Settings → Reference → RegistryOperation → Wanted → List Exchange → Type 0
Behind s image op w [] = Unit {0}
Behind s image op w (f ∷ []) = (challenge : BearerChallenge) × (w ≡ wants.Token challenge) × AsksRealm s image op challenge f.request
Behind s image op w _ = ⊥

realm_behind : (s : Settings) (image : Reference) (op : RegistryOperation) (challenge : BearerChallenge) (request : Request) (c : List Exchange) → AsksRealm s image op challenge request → One request c → Behind s image op (wants.Token challenge) c
realm_behind s image op challenge request c asks one = subst (Behind s image op (wants.Token challenge)) (sym one.split) (challenge, refl, subst (AsksRealm s image op challenge) (sym one.request_is) asks)

realm_shown : (s : Settings) (image : Reference) (a : RegistryAuth) (op : RegistryOperation) (challenge : BearerChallenge) → EveryRun (λ m c n r. Behind s image op (wants.Token challenge) c) (realm_asked s image a op challenge)
unfolding realm_asked
realm_shown s image a op challenge = EveryRun-step (λ m c n r. B c) (url_read challenge.realm) _ (λ url read. EveryRun-step (λ m c n r. B c) (realm_request s image a op challenge.service url) _ (λ request made. silent_last B (whole 0 request s.max_body_bytes) (unless_refused (λ got. Done (token_read got.answer)))
    (EveryRun-more (λ m c n r. One request c) (λ m c n r. B c) (whole 0 request s.max_body_bytes) (whole_shown request s.max_body_bytes) (λ m n c r one. realm_behind s image op challenge request c (record { url = url; address = url_some challenge.realm (request_url challenge.realm) url read; auth = a; made = made }) one))
    (silent_unless (λ got. Done (token_read got.answer)) (λ got. silent_done (token_read got.answer)))) (λ e is m. tt)) (λ e is m. tt) where
      B : List Exchange → Type 0
      B = Behind s image op (wants.Token challenge)

fetched_shown : (s : Settings) (image : Reference) (a : RegistryAuth) (op : RegistryOperation) (w : Wanted) → EveryRun (λ m c n r. Behind s image op w c) (fetched s image a op w)
fetched_shown s image a op wants.Nothing = EveryRun-done (λ m c n r. Behind s image op wants.Nothing c) _ (λ m. tt)
fetched_shown s image a op wants.Credentials = EveryRun-done (λ m c n r. Behind s image op wants.Credentials c) _ (λ m. tt)
fetched_shown s image a op (wants.Token challenge) = realm_shown s image a op challenge

behind_step : (s : Settings) (image : Reference) (op : RegistryOperation) (e : Exchange) (answer : Answer) (d : List Exchange) → AsksRegistry s image e.request → e.answer ≡ Some answer → Behind s image op (wanted (head_part answer)) d → OfTokenStep s image op (e ∷ d)
behind_step s image op e answer [] asks answered h = asks
behind_step s image op e answer (f ∷ []) asks answered h = (asks, (answer, answered, h.0, h.1, h.2))
behind_step s image op e answer (f ∷ (g ∷ d)) asks answered h = absurd h

after_head : (s : Settings) (image : Reference) (a : RegistryAuth) (op : RegistryOperation) (request : Request) (m n : ℕ) (c : List Exchange) (r : Result AnswerHead OciDistributionError) → AsksRegistry s image request → HeadShown request m c n r → EveryRun (λ start d o t. OfTokenStep s image op (c ++ d)) (unless_refused (λ head. fetched s image a op (wanted head)) r)
after_head s image a op request m n c (Ok head) asks h = EveryRun-more (λ start d o t. Behind s image op (wanted head) d) (λ start d o t. OfTokenStep s image op (c ++ d)) (fetched s image a op (wanted head)) (fetched_shown s image a op (wanted head))
    (λ start o d t g. subst (λ (x : List Exchange). OfTokenStep s image op (x ++ d)) (sym h.split) (behind_step s image op h.exchange h.answer d (subst (AsksRegistry s image) (sym h.request_is) asks) h.answered (subst (λ (x : AnswerHead). Behind s image op (wanted x) d) (sym h.head_is) g)))
after_head s image a op request m n c (Err e) asks h = EveryRun-done (λ start d o t. OfTokenStep s image op (c ++ d)) (Err e) (λ start. subst (λ (x : List Exchange). OfTokenStep s image op (x ++ [])) (sym h.split) (subst (AsksRegistry s image) (sym h.request_is) asks))

abbrev pub Stepped : Settings → Reference → RegistryOperation → {A : Type 0} → ℕ → List Exchange → ℕ → A → Type 0
Stepped s image op m c n a = OfTokenStep s image op c

stepped_registry : (s : Settings) (image : Reference) (a : RegistryAuth) (op : RegistryOperation) → EveryRun (Stepped s image op) (registry_asked s image a op)
unfolding registry_asked
stepped_registry s image a op = EveryRun-step (Stepped s image op) (url_read (base_text s image)) _ (λ url read. EveryRun-step (Stepped s image op) (request_of s Get url None None) _ (λ request made. EveryRun-bind (HeadShown request) (Stepped s image op) (head_after 0 request) (unless_refused (λ head. fetched s image a op (wanted head))) (head_shown request)
    (λ m n c r h. after_head s image a op request m n c r (record { url = url; address = url_some (base_text s image) (request_url (base_text s image)) url read; made = made }) h)) (λ e is m. tt)) (λ e is m. tt)

stepped_token : (s : Settings) (image : Reference) (a : RegistryAuth) (op : RegistryOperation) → EveryRun (Stepped s image op) (token_step s image a op)
stepped_token s image a op = by_unasked (unasked a) where
  by_unasked : (o : Option RegistryTokenType) → EveryRun (Stepped s image op) (unasked_or_asked s image a op o)
  by_unasked (Some token) = EveryRun-done (Stepped s image op) _ (λ m. tt)
  by_unasked None = stepped_registry s image a op

stepped_asked : (s : Context) (image : Reference) (op : RegistryOperation) (a : RegistryAuth) → EveryRun (Stepped s.settings image op) (token_asked s image op a)
unfolding token_asked
stepped_asked s image op a = silent_last (OfTokenStep s.settings image op) (token_step s.settings image a op) (taken s.moment (key_of image op)) (stepped_token s.settings image a op) (λ r. silent_taken s.moment (key_of image op) r)

stepped_kept : (s : Context) (image : Reference) (op : RegistryOperation) (a : RegistryAuth) (kept : Option RegistryTokenType) → EveryRun (Stepped s.settings image op) (kept_or_asked s image op a kept)
stepped_kept s image op a (Some token) = EveryRun-done (Stepped s.settings image op) (Ok (Some token)) (λ m. tt)
stepped_kept s image op a None = stepped_asked s image op a

stepped_by : (s : Context) (image : Reference) (op : RegistryOperation) (a : Option RegistryAuth) (kept : Option RegistryTokenType) → EveryRun (Stepped s.settings image op) (token_by s image op a kept)
stepped_by s image op None kept = EveryRun-done (Stepped s.settings image op) (Ok None) (λ m. tt)
stepped_by s image op (Some a) kept = stepped_kept s image op a kept

stepped_for : (s : Context) (image : Reference) (op : RegistryOperation) → EveryRun (Stepped s.settings image op) (token_for s image op)
unfolding token_for
stepped_for s image op = silent_first (OfTokenStep s.settings image op) recalled _ tt silent_recalled (λ k. stepped_by s image op (map.get k.credentials (resolved_registry image)) (token_at k.tokens (key_of image op) s.moment))

stepped_where : (s : Context) (image : Reference) (op : RegistryOperation) (b : Bool) → EveryRun (Stepped s.settings image op) (token_where s image op b)
stepped_where s image op true = stepped_for s image op
stepped_where s image op false = EveryRun-done (Stepped s.settings image op) (Ok None) (λ m. tt)

pub stepped_authorized : (s : Context) (image : Reference) (op : RegistryOperation) (url : Parts) → EveryRun (Stepped s.settings image op) (authorized s image op url)
unfolding authorized
stepped_authorized s image op url = EveryRun-step (Stepped s.settings image op) (url_read (registry_text s.settings image)) _ (λ registry is. stepped_where s image op (goes_to (request_url (serialize url)) registry)) (λ e is m. tt)

-- the same, with refusals unspecified
stepped_ok : (s : Settings) (image : Reference) (op : RegistryOperation) {A E : Type 0} (m n : ℕ) (c : List Exchange) (r : Result A E) → OfTokenStep s image op c → WhenOk (λ m c n a. OfTokenStep s image op c) m c n r
stepped_ok s image op m n c (Ok a) h = h
stepped_ok s image op m n c (Err e) h = tt

-- a request is built after a token step
pub record Prepared (s : Settings) (image : Reference) (op : RegistryOperation) (method : Method) (url : Parts) (types : List ℕ) (c : List Exchange) (request : Request) : Type 0 where
  pub step : OfTokenStep s image op c
  pub token : Option RegistryTokenType
  pub made : request_of s method url (Some types) token ≡ Ok request

pub prepared_shows : (s : Context) (image : Reference) (op : RegistryOperation) (method : Method) (url : Parts) (types : List ℕ) → EveryRun (WhenOk (λ m c n request. Prepared s.settings image op method url types c request)) (prepared s image op method url types)
unfolding prepared
prepared_shows s image op method url types =
    EveryRun-next (λ m c n token. OfTokenStep s.settings image op c) (λ m c n request. Prepared s.settings image op method url types c request) (authorized s image op url) (λ token. Done (request_of s.settings method url (Some types) token))
    (EveryRun-more (Stepped s.settings image op) (WhenOk (λ m c n token. OfTokenStep s.settings image op c)) (authorized s image op url) (stepped_authorized s image op url) (stepped_ok s.settings image op))
    (λ m n c token h. EveryRun-last (λ start d o request. Prepared s.settings image op method url types (c ++ d) request) (λ start d o e. Unit {0}) (request_of s.settings method url (Some types) token) (λ request is o. record { step = subst (OfTokenStep s.settings image op) (sym (append-nil c)) h; token = token; made = is }) (λ e is o. tt))
