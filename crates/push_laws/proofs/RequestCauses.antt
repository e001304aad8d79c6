-- Why a request of a push was refused, and which location its response named.
use Rattle.std.proofs.Common.{◌≡◌, ◌≢◌, ◌<◌, inl, inr, ℕ, zero, Bool, true, false, arith, List, [], ◌∷◌, ◌++◌, Option, Some, None, Result, Ok, Err, codes, length, refl, sym, ap, subst, ◌∙◌, append-nil, append_assoc}
use Rattle.std.specs.Prelude.{nat_eq, if◌then◌else◌}
use Rattle.std.specs.List.{Contains}
use Rattle.std.proofs.lemmas.List.Elements.{Contains-append_left, Contains-append_right}
use Rattle.std.proofs.lemmas.Bool.Decides.{nat_tests}
use Rattle.url.specs.Parts.{Parts}
use Rattle.oci_names.specs.declared.reference.Reference.{Reference}
use Rattle.oci_auth.specs.declared.auth_state.AuthState.{AuthState}
use Rattle.oci_auth.specs.declared.token_type.RegistryOperation.TheVariants.{Push}
use Rattle.oci_auth.specs.declared.token_type.RegistryTokenType.{RegistryTokenType}
use Rattle.oci_transport.specs.Headers.{first_of, is_text}
use Rattle.oci_transport.specs.Link.{answer_of}
use Rattle.oci_transport.specs.Urls.{request_url}
use Rattle.oci_transport.specs.declared.message.Request.{Request}
use Rattle.oci_transport.specs.declared.message.Answer.{Answer}
use Rattle.oci_transport.specs.declared.message.AnswerHead.{AnswerHead}
use Rattle.oci_transport.specs.declared.message.Exchange.{Exchange}
use Rattle.oci_transport.specs.declared.message.Method.{Method}
use Rattle.oci_protocol.specs.Proto.{Reading, Unread, Within, Piped, limit_of, Reply, Headed, Answered, Failed, TooLong, SinkFailed, Done, ◌>>=◌}
use Rattle.oci_protocol.specs.Follow.{Trail}
use Rattle.oci_protocol.specs.Runs.{Runs, head_part}
use Rattle.oci_protocol.specs.EveryRun.{EveryRun, Heard, ByResult}
use Rattle.oci_protocol.proofs.Ends.{Runs-ends}
use Rattle.oci_protocol.proofs.RunFacts.{done_run, EveryRun-done, EveryRun-more, EveryRun-each, EveryRun-step, EveryRun-follow}
use Rattle.engine_terms.specs.Contexts.{Context}
use Rattle.engine_terms.specs.declared.error.GenericCause.TheVariants.{HeaderText}
use Rattle.engine_terms.specs.declared.error.SpecViolation.TheVariants.{Status}
use Rattle.engine_terms.specs.declared.error.OciDistributionError.{OciDistributionError}
use Rattle.engine_terms.specs.declared.error.OciDistributionError.TheVariants as refusal
use Rattle.engine_terms.specs.declared.settings.Settings.{Settings}
use Rattle.engine_requests.specs.Addresses.{registry_text, uploads_text, url_or, url_read}
use Rattle.engine_requests.specs.Requests.{request_of}
use Rattle.engine_answers.specs.Answers.{is_success}
use Rattle.engine_rows.specs.Rows.{Row, authorized}
use Rattle.engine_rows.specs.TokenCauses.{LastIs}
use Rattle.request_laws.proofs.FaultCounts.{last_after}
use Rattle.request_laws.proofs.RequestConfinement.{request_method_is}
use Rattle.push_rows.specs.Contents.{with_content}
use Rattle.push_rows.specs.Locations.{resolved, location_of, located}
use Rattle.push_rows.proofs.Endings.{NoRegistry, authorized_fine, Textual, made_textual, content_textual}
use Rattle.push_rows.specs.Uploads.{unless_success, location_reply, location_after, sent}
use Rattle.push_rows.specs.declared.content.Content.{Content}
use Rattle.push_laws.proofs.PushedHeaders.{content_made}
use Rattle.push_rows.specs.Causes.{AnsweredPush, Named, PushText, ShownBy, PushCause}

-- ---- which texts may be malformed URLs

pub record Texts (s : Settings) (image : Reference) (T : List Exchange → List ℕ → Type 0) : Type 0 where
  pub registry : (c : List Exchange) → T c (registry_text s image)
  pub uploads : (c : List Exchange) → T c (uploads_text s image)
  pub named : (c : List Exchange) (text : List ℕ) → Named s image c text → T c text
  pub more : (c d : List Exchange) (text : List ℕ) → T c text → T (c ++ d) text

named_more : {s : Settings} {image : Reference} (c d : List Exchange) {text : List ℕ} → Named s image c text → Named s image (c ++ d) text
named_more c d n = record { exchange = n.exchange; contains = Contains-append_left c d n.exchange n.contains; answer = n.answer; answered = n.answered; value = n.value; header = n.header; text_is = n.text_is }

text_more : (s : Settings) (image : Reference) (c d : List Exchange) (text : List ℕ) → PushText s image c text → PushText s image (c ++ d) text
text_more s image c d text (inl h) = inl h
text_more s image c d text (inr (inl h)) = inr (inl h)
text_more s image c d text (inr (inr h)) = inr (inr (named_more c d h))

pub named_after : {s : Settings} {image : Reference} (c : List Exchange) {d : List Exchange} {text : List ℕ} → Named s image d text → Named s image (c ++ d) text
named_after c {d} n = record { exchange = n.exchange; contains = Contains-append_right c d n.exchange n.contains; answer = n.answer; answered = n.answered; value = n.value; header = n.header; text_is = n.text_is }

-- those of the call, and of the rest of the call after these exchanges
pub call_texts : (s : Settings) (image : Reference) → Texts s image (PushText s image)
call_texts s image = record { registry = λ c. inl refl; uploads = λ c. inr (inl refl); named = λ c text h. inr (inr h); more = text_more s image }

pub texts_after : {s : Settings} {image : Reference} {T : List Exchange → List ℕ → Type 0} (c : List Exchange) → Texts s image T → Texts s image (λ d. T (c ++ d))
texts_after {T = T} c t = record { registry = λ d. t.registry (c ++ d); uploads = λ d. t.uploads (c ++ d); named = λ d text h. t.named (c ++ d) text (named_after c h); more = λ d e text h. subst (λ x. T x text) (append_assoc c d e) (t.more (c ++ d) e text h) }

-- ---- causes, one step after another

-- with an invalid header value unspecified
abbrev pub Loose : (Method → Option ℕ) → (List Exchange → List ℕ → Type 0) → (OciDistributionError → Type 0) → Settings → List Exchange → ℕ → OciDistributionError → Type 0
Loose expects T Own s c n e = PushCause expects T Own (λ c. Unit {0}) s c n e

pub cause_after : (expects : Method → Option ℕ) (T : List Exchange → List ℕ → Type 0) (Own : OciDistributionError → Type 0) (s : Settings) (c d : List Exchange) (n : ℕ) (e : OciDistributionError) → Loose expects (λ d. T (c ++ d)) Own s d n e → Loose expects T Own s (c ++ d) n e
cause_after expects T Own s c d n (refusal.UrlParseError text) h = h
cause_after expects T Own s c d n (refusal.GenericError HeaderText) h = h
cause_after expects T Own s c d n refusal.TransportFault h = last_after c h
cause_after expects T Own s c d n refusal.BodyTooLong (inl h) = inl h
cause_after expects T Own s c d n refusal.BodyTooLong (inr h) = inr (last_after c h)
cause_after expects T Own s c d n refusal.WantOfMemory h = tt
cause_after expects T Own s c d n _ (inl h) = inl h
cause_after expects T Own s c d n _ (inr h) = inr (last_after c h)

-- T holds for the exchanges of an `Ok`, and a refusal has its cause
abbrev pub Shown : (Method → Option ℕ) → (List Exchange → List ℕ → Type 0) → (OciDistributionError → Type 0) → Settings → {A : Type 0} → (List Exchange → A → Type 0) → Row A → Type 0
Shown expects T Own s P p = EveryRun (ByResult (λ m c n a. P c a) (λ m c n e. Loose expects T Own s c n e)) p

pub shown_next : {A B : Type 0} (expects : Method → Option ℕ) (T : List Exchange → List ℕ → Type 0) (Own : OciDistributionError → Type 0) (s : Settings) (P : List Exchange → A → Type 0) (Q : List Exchange → B → Type 0) (p : Row A) (f : A → Row B)
    → Shown expects T Own s P p → ((c : List Exchange) (a : A) → P c a → Shown expects (λ d. T (c ++ d)) Own s (λ d b. Q (c ++ d) b) (f a)) → Shown expects T Own s Q (p >>= f)
shown_next {A} {B} expects T Own s P Q p f first each = EveryRun-each (λ m c n a. P c a) (λ m c n b. Q c b) (λ m c n e. Loose expects T Own s c n e) p f first (λ m n c a h.
    EveryRun-more (ByResult (λ m d n b. Q (c ++ d) b) (λ m d n e. Loose expects (λ d. T (c ++ d)) Own s d n e)) (λ start d o r. ByResult (λ m c n b. Q c b) (λ m c n e. Loose expects T Own s c n e) m (c ++ d) o r) (f a) (each c a h) (λ start o d r g. by_answer m start c d o r g)) where
      by_answer : (m start : ℕ) (c d : List Exchange) (o : ℕ) (r : Result B OciDistributionError) → ByResult (λ m d n b. Q (c ++ d) b) (λ m d n e. Loose expects (λ d. T (c ++ d)) Own s d n e) start d o r → ByResult (λ m c n b. Q c b) (λ m c n e. Loose expects T Own s c n e) m (c ++ d) o r
      by_answer m start c d o (Ok b) g = g
      by_answer m start c d o (Err e) g = cause_after expects T Own s c d o e g

-- after these exchanges
pub shown_named : (expects : Method → Option ℕ) (T : List Exchange → List ℕ → Type 0) (Own : OciDistributionError → Type 0) (s : Settings) (image : Reference) (c : List Exchange) (p : Row (List ℕ)) → Shown expects T Own s (Named s image) p → Shown expects T Own s (λ d location. Named s image (c ++ d) location) p
shown_named expects T Own s image c p h = EveryRun-more (ByResult (λ m d n a. Named s image d a) (λ m d n e. Loose expects T Own s d n e)) (ByResult (λ m d n a. Named s image (c ++ d) a) (λ m d n e. Loose expects T Own s d n e)) p h by_answer where
  by_answer : (m n : ℕ) (d : List Exchange) (r : Result (List ℕ) OciDistributionError) → ByResult (λ m d n a. Named s image d a) (λ m d n e. Loose expects T Own s d n e) m d n r → ByResult (λ m d n a. Named s image (c ++ d) a) (λ m d n e. Loose expects T Own s d n e) m d n r
  by_answer m n d (Ok location) g = named_after c g
  by_answer m n d (Err e) g = g

-- a step without a request
pub shown_step : {A B : Type 0} (expects : Method → Option ℕ) (T : List Exchange → List ℕ → Type 0) (Own : OciDistributionError → Type 0) (s : Settings) (Q : List Exchange → B → Type 0) (r : Result A OciDistributionError) (f : A → Row B)
    → ((a : A) → r ≡ Ok a → Shown expects T Own s Q (f a)) → ((e : OciDistributionError) → r ≡ Err e → (n : ℕ) → Loose expects T Own s [] n e) → Shown expects T Own s Q (Done r >>= f)
shown_step expects T Own s Q r f each refused = EveryRun-step (ByResult (λ m c n b. Q c b) (λ m c n e. Loose expects T Own s c n e)) r f each refused

pub shown_done : {A : Type 0} (expects : Method → Option ℕ) (T : List Exchange → List ℕ → Type 0) (Own : OciDistributionError → Type 0) (s : Settings) (Q : List Exchange → A → Type 0) (a : A) → Q [] a → Shown expects T Own s Q (Done (Ok a))
shown_done expects T Own s Q a h = EveryRun-done (ByResult (λ m c n b. Q c b) (λ m c n e. Loose expects T Own s c n e)) (Ok a) (λ m. h)

url_none : (text : List ℕ) (e : OciDistributionError) (o : Option Parts) → url_or text o ≡ Err e → (o ≡ None) × (e ≡ refusal.UrlParseError text)
url_none text e None refused = let same : refusal.UrlParseError text ≡ e = cc refused in (refl, sym same)
url_none text e (Some url) refused = absurd (cc refused)

pub url_shown : {B : Type 0} (expects : Method → Option ℕ) (T : List Exchange → List ℕ → Type 0) (Own : OciDistributionError → Type 0) (s : Settings) (Q : List Exchange → B → Type 0) (text : List ℕ) (f : Parts → Row B) → T [] text → ((url : Parts) → Shown expects T Own s Q (f url)) → Shown expects T Own s Q (Done (url_read text) >>= f)
url_shown expects T Own s Q text f here each = shown_step expects T Own s Q (url_read text) f (λ url is. each url) (λ e is n. refused e is n) where
  refused : (e : OciDistributionError) → url_read text ≡ Err e → (n : ℕ) → Loose expects T Own s [] n e
  refused e is n = let at = url_none text e (request_url text) is in subst (Loose expects T Own s [] n) (sym at.1) (at.0, here)

-- ---- one request

was_success : (limit : ℕ) (head : AnswerHead) → unless_success limit head ≡ Unread → is_success head.status ≡ true
unfolding unless_success
was_success limit head is = by_test (is_success head.status) is where
  by_test : (b : Bool) → (if b then Unread else Within limit) ≡ Unread → b ≡ true
  by_test true is = refl
  by_test false is = absurd (cc is)

was_other : (limit n : ℕ) (head : AnswerHead) → limit_of (unless_success limit head) ≡ Some n → (is_success head.status ≡ false) × (limit ≡ n)
unfolding unless_success
was_other limit n head is = by_test (is_success head.status) is where
  by_test : (b : Bool) → limit_of (if b then Unread else Within limit) ≡ Some n → (b ≡ false) × (limit ≡ n)
  by_test true is = absurd (cc is)
  by_test false is = (refl, cc is)

never_piped : (limit n : ℕ) (head : AnswerHead) → unless_success limit head ≡ Piped n → ⊥
unfolding unless_success
never_piped limit n head is = by_test (is_success head.status) is where
  by_test : (b : Bool) → (if b then Unread else Within limit) ≡ Piped n → ⊥
  by_test true is = cc is
  by_test false is = cc is

same_request : (request last : Request) {reading : AnswerHead → Reading} (m after : ℕ) (c : List Exchange) (reply : Reply) → (h : Heard zero request reading m c after last reply) → h.exchange.request ≡ request
unfolding Trail
same_request request last m after c reply h = by_trail h.redirects h.split h.trail where
  by_trail : (redirects : List Exchange) → c ≡ redirects ++ h.exchange ∷ [] → Trail zero request m redirects h.left last h.before → h.exchange.request ≡ request
  by_trail [] split trail = h.replies.request_is ∙ sym trail.1
  by_trail (e ∷ redirects) split trail = absurd trail

contains_last : (c : List Exchange) (e : Exchange) → Contains (c ++ e ∷ []) e
contains_last c e = Contains-append_right c (e ∷ []) e (0, omega arith, refl)

module _ (expects : Method → Option ℕ) (T : List Exchange → List ℕ → Type 0) (Own : OciDistributionError → Type 0) (s : Settings) (image : Reference) (expected : ℕ) where
  abbrev Q : ℕ → List Exchange → ℕ → Result (List ℕ) OciDistributionError → Type 0
  Q = ByResult (λ m c n location. Named s image c location) (λ m c n e. Loose expects T Own s c n e)

  -- the last response shows what is refused
  refused_last : (redirects : List Exchange) (exchange : Exchange) (answer : Answer) (e : OciDistributionError) → expects exchange.request.method ≡ Some expected → exchange.answer ≡ Some answer → ShownBy e expected exchange.request.url answer → LastIs (AnsweredPush expects (ShownBy e)) (redirects ++ exchange ∷ [])
  refused_last redirects exchange answer e pushed answered shown = record { before = redirects; last = exchange; split = refl; holds = (expected, pushed, answer, answered, shown) }

  by_text : (redirects : List Exchange) (exchange : Exchange) (answer : Answer) (value : List ℕ) (m n : ℕ) (b : Bool) → is_text value ≡ b → expects exchange.request.method ≡ Some expected → exchange.answer ≡ Some answer → answer.status ≡ expected → first_of (codes "location") answer.headers ≡ Some value
      → Q m (redirects ++ exchange ∷ []) n (if b then Ok (resolved s image value) else Err (refusal.HeaderValueError value))
  by_text redirects exchange answer value m n true is pushed answered same header = record { exchange = exchange; contains = contains_last redirects exchange; answer = answer; answered = answered; value = value; header = header; text_is = refl }
  by_text redirects exchange answer value m n false is pushed answered same header = inr (refused_last redirects exchange answer (refusal.HeaderValueError value) pushed answered (same, header, is))

  by_header : (redirects : List Exchange) (exchange : Exchange) (answer : Answer) (value : Option (List ℕ)) (m n : ℕ) → first_of (codes "location") answer.headers ≡ value → expects exchange.request.method ≡ Some expected → exchange.answer ≡ Some answer → answer.status ≡ expected
      → Q m (redirects ++ exchange ∷ []) n (location_of s image value)
  by_header redirects exchange answer None m n header pushed answered same = inr (refused_last redirects exchange answer refusal.RegistryNoLocationError pushed answered (same, header))
  by_header redirects exchange answer (Some value) m n header pushed answered same = by_text redirects exchange answer value m n (is_text value) refl pushed answered same header

  other_status : (a b : ℕ) → nat_eq a b ≡ false → a ≢ b
  other_status a b h same = grind (arith, nat_tests, h, same)

  same_status : (a b : ℕ) → nat_eq a b ≡ true → a ≡ b
  same_status a b h = grind (arith, nat_tests, h)

  by_status : (redirects : List Exchange) (exchange : Exchange) (answer : Answer) (url : List ℕ) (m n : ℕ) (b : Bool) → nat_eq answer.status expected ≡ b → exchange.request.url ≡ url → expects exchange.request.method ≡ Some expected → exchange.answer ≡ Some answer → is_success answer.status ≡ true
      → Q m (redirects ++ exchange ∷ []) n (if b then location_of s image (first_of (codes "location") answer.headers) else Err (refusal.SpecViolationError (Status expected answer.status url)))
  by_status redirects exchange answer url m n true is url_is pushed answered success = by_header redirects exchange answer (first_of (codes "location") answer.headers) m n refl pushed answered (same_status answer.status expected is)
  by_status redirects exchange answer url m n false is url_is pushed answered success = inr (refused_last redirects exchange answer (refusal.SpecViolationError (Status expected answer.status url)) pushed answered (refl, refl, sym url_is, success, other_status answer.status expected is))

  headed : (redirects : List Exchange) (exchange : Exchange) (head : AnswerHead) (body url : List ℕ) (m n : ℕ) → exchange.request.url ≡ url → expects exchange.request.method ≡ Some expected → exchange.answer ≡ Some (answer_of head body) → is_success head.status ≡ true → Q m (redirects ++ exchange ∷ []) n (located s image expected url head)
  unfolding located
  headed redirects exchange head body url m n url_is pushed answered success = by_status redirects exchange (answer_of head body) url m n (nat_eq head.status expected) refl url_is pushed answered success

  location_run : (request : Request) → expects request.method ≡ Some expected → (k l : AuthState) (m after o : ℕ) (c d : List Exchange) (last : Request) (reply : Reply) (r : Result (List ℕ) OciDistributionError) → Heard 0 request (unless_success s.max_body_bytes) m c after last reply → Runs (location_reply s image expected last reply) k after d o l r → Q m (c ++ d) o r
  location_run request pushed k l m after o c d last reply r h run = by_reply reply h run where
    pushed_last : (reply : Reply) (h : Heard 0 request (unless_success s.max_body_bytes) m c after last reply) → expects h.exchange.request.method ≡ Some expected
    pushed_last reply h = subst (λ method. expects method ≡ Some expected) (sym (ap (λ (q : Request). q.method) (same_request request last m after c reply h))) pushed

    by_reply : (reply : Reply) (h : Heard 0 request (unless_success s.max_body_bytes) m c after last reply) → Runs (location_reply s image expected last reply) k after d o l r → Q m (c ++ d) o r
    by_reply (Headed head) h run =
        let b = h.replies.reply_is in
        done_run (λ start d o r. Q m (c ++ d) o r) (located s image expected last.url head) k l after o d r
        (subst (λ x. Q m x after (located s image expected last.url head)) (sym (append-nil c ∙ h.split))
        (headed h.redirects h.exchange head b.0 last.url m after (ap (λ (q : Request). q.url) h.replies.request_is) (pushed_last (Headed head) h) b.1 (was_success s.max_body_bytes head b.2))) run
    by_reply (Answered answer) h run =
        let b = h.replies.reply_is in
        let e = refusal.ServerError answer.status last.url answer.body in
        done_run (λ start d o r. Q m (c ++ d) o r) (Err e) k l after o d r
        (subst (λ x. Q m x after (Err e)) (sym (append-nil c ∙ h.split))
        (inr (refused_last h.redirects h.exchange answer e (pushed_last (Answered answer) h) b.1 (refl, sym (ap (λ (q : Request). q.url) h.replies.request_is), refl, (was_other s.max_body_bytes b.0 (head_part answer) b.2).0)))) run
    by_reply TooLong h run =
        let b = h.replies.reply_is in
        done_run (λ start d o r. Q m (c ++ d) o r) (Err refusal.BodyTooLong) k l after o d r
        (subst (λ x. Q m x after (Err refusal.BodyTooLong)) (sym (append-nil c ∙ h.split))
        (inr (record { before = h.redirects; last = h.exchange; split = refl; holds = (expected, pushed_last TooLong h, b.0, b.2, subst (λ limit. limit < length b.0.body) (sym (was_other s.max_body_bytes b.1 (head_part b.0) b.3).1) b.4) }))) run
    by_reply Failed h run =
        done_run (λ start d o r. Q m (c ++ d) o r) (Err refusal.TransportFault) k l after o d r
        (subst (λ x. Q m x after (Err refusal.TransportFault)) (sym (append-nil c ∙ h.split))
        (record { before = h.redirects; last = h.exchange; split = refl; holds = (expected, pushed_last Failed h, h.replies.reply_is) })) run
    by_reply SinkFailed h run = absurd (never_piped s.max_body_bytes h.replies.reply_is.1 (head_part h.replies.reply_is.0) h.replies.reply_is.3)

  location_shown : (request : Request) → expects request.method ≡ Some expected → Shown expects T Own s (Named s image) (location_after s image expected request)
  unfolding location_after
  location_shown request pushed = EveryRun-follow Q 0 request (unless_success s.max_body_bytes) (location_reply s image expected) (location_run request pushed)

-- ---- what comes before it: the token step, and building the request

module _ (expects : Method → Option ℕ) (s : Context) (image : Reference) (Own : OciDistributionError → Type 0) where
  abbrev Locates : (List Exchange → List ℕ → Type 0) → Row (List ℕ) → Type 0
  Locates T p = Shown expects T Own s.settings (Named s.settings image) p

  -- with the response unspecified
  token_shown : (T : List Exchange → List ℕ → Type 0) → ((c : List Exchange) → T c (registry_text s.settings image)) → (url : Parts) → Shown expects T Own s.settings (λ c token. Unit {0}) (authorized s image Push url)
  token_shown T registry url = record { shows = λ k l m n c r run. by_answer m n c r (Runs-ends (NoRegistry s.settings image) (authorized s image Push url) k l m n c r (authorized_fine s image url) run) } where
    by_cause : (n : ℕ) (c : List Exchange) (e : OciDistributionError) → NoRegistry s.settings image {A = Option RegistryTokenType} (Err e) → Loose expects T Own s.settings c n e
    by_cause n c (refusal.UrlParseError text) h = (h.0, subst (T c) (sym h.1) (registry c))
    by_cause n c refusal.WantOfMemory h = tt
    by_cause n c _ h = absurd h

    by_answer : (m n : ℕ) (c : List Exchange) (r : Result (Option RegistryTokenType) OciDistributionError) → NoRegistry s.settings image r → ByResult (λ m c n token. Unit {0}) (λ m c n e. Loose expects T Own s.settings c n e) m c n r
    by_answer m n c (Ok token) h = tt
    by_answer m n c (Err e) h = by_cause n c e h

  made_shown : (T : List Exchange → List ℕ → Type 0) (P : List Exchange → List ℕ → Type 0) (method : Method) (url : Parts) (content : Content) (expected : ℕ) (token : Option RegistryTokenType) → ((request : Request) → request.method ≡ method → Shown expects T Own s.settings P (location_after s.settings image expected request))
      → Shown expects T Own s.settings P (Done (request_of s.settings method url None token) >>= λ request. Done (with_content content request) >>= location_after s.settings image expected)
  made_shown T P method url content expected token each = shown_step expects T Own s.settings P (request_of s.settings method url None token) _
      (λ bare is. shown_step expects T Own s.settings P (with_content content bare) _ (λ request made. each request ((content_made content bare request made).method_is ∙ request_method_is s.settings method url None token bare is)) (λ e refused n. unmade e n (subst Textual refused (content_textual content bare))))
      (λ e refused n. unmade e n (subst Textual refused (made_textual s.settings method url token))) where
        unmade : (e : OciDistributionError) (n : ℕ) → e ≡ refusal.GenericError HeaderText → Loose expects T Own s.settings [] n e
        unmade e n is = subst (Loose expects T Own s.settings [] n) (sym is) tt

  pub sent_shown : (T : List Exchange → List ℕ → Type 0) → ((c : List Exchange) → T c (registry_text s.settings image)) → (method : Method) (url : Parts) (content : Content) (expected : ℕ) → expects method ≡ Some expected → Locates T (sent s image method url content expected)
  unfolding sent
  sent_shown T registry method url content expected pushed = shown_next expects T Own s.settings (λ c token. Unit {0}) (Named s.settings image) (authorized s image Push url) _ (token_shown T registry url) (λ c token h.
      made_shown (λ d. T (c ++ d)) (λ d location. Named s.settings image (c ++ d) location) method url content expected token (λ request is. named_later c request is)) where
        named_later : (c : List Exchange) (request : Request) → request.method ≡ method → Shown expects (λ d. T (c ++ d)) Own s.settings (λ d location. Named s.settings image (c ++ d) location) (location_after s.settings image expected request)
        named_later c request is = shown_named expects (λ d. T (c ++ d)) Own s.settings image c (location_after s.settings image expected request) (location_shown expects (λ d. T (c ++ d)) Own s.settings image expected request (subst (λ method. expects method ≡ Some expected) (sym is) pushed))
