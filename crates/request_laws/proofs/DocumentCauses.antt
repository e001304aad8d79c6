-- Why the calls that return documents and digests were refused.
use Rattle.std.proofs.Common.{◌≡◌, ◌≢◌, ◌⊎◌, inl, inr, ℕ, Bool, true, false, List, [], ◌∷◌, ◌++◌, Option, Some, None, Result, Ok, Err, refl, sym, ap, subst, ◌∙◌, append_assoc, append-nil, arith}
use Rattle.std.specs.Prelude.{nat_eq, if◌then◌else◌}
use Rattle.std.proofs.lemmas.Bool.Decides.{nat_tests}
use Rattle.url.specs.Parts.{Parts}
use Rattle.oci_transport.specs.Headers.{digest_header, first_of}
use Rattle.oci_transport.specs.Urls.{request_url}
use Rattle.oci_transport.specs.declared.message.Request.{Request}
use Rattle.oci_transport.specs.declared.message.Answer.{Answer}
use Rattle.oci_transport.specs.declared.message.AnswerHead.{AnswerHead}
use Rattle.oci_transport.specs.declared.message.Exchange.{Exchange}
use Rattle.oci_transport.specs.declared.message.Method.{Method}
use Rattle.oci_transport.specs.declared.message.Method.TheVariants.{Get}
use Rattle.oci_names.specs.declared.reference.Reference.{Reference}
use Rattle.oci_names.specs.Reference.{digest_of}
use Rattle.oci_digests.specs.Checks.{header_digest as digest_in, validated}
use Rattle.oci_digests.specs.declared.error.DigestError.{DigestError}
use Rattle.oci_errors.specs.declared.envelope.OciEnvelope.{OciEnvelope}
use Rattle.oci_auth.specs.declared.auth.RegistryAuth.{RegistryAuth}
use Rattle.oci_auth.specs.declared.auth_state.AuthState.{AuthState}
use Rattle.oci_auth.specs.declared.token_type.RegistryOperation.{RegistryOperation}
use Rattle.oci_auth.specs.declared.token_type.RegistryOperation.TheVariants.{Pull}
use Rattle.oci_protocol.specs.Proto.{Reading, Unread as NotRead, Piped, limit_of, Reply, Headed, Answered, Failed, TooLong, SinkFailed, read_within, Done, ◌>>=◌}
use Rattle.oci_protocol.specs.Runs.{head_part, Runs}
use Rattle.oci_protocol.specs.Follow.{Trail, IsFinal}
use Rattle.oci_protocol.specs.EveryRun.{EveryRun, ByResult, Heard}
use Rattle.oci_protocol.proofs.RunFacts.{done_run, EveryRun-more, EveryRun-each, EveryRun-step, EveryRun-last, EveryRun-follow}
use Rattle.engine_answers.specs.declared.answers.Got.{Got}
use Rattle.engine_terms.specs.Contexts.{Context}
use Rattle.engine_terms.specs.declared.settings.Settings.{Settings}
use Rattle.engine_terms.specs.declared.error.GenericCause.TheVariants.{HeaderText}
use Rattle.engine_terms.specs.declared.error.SpecViolation.TheVariants.{Status}
use Rattle.engine_terms.specs.declared.error.OciDistributionError.{OciDistributionError}
use Rattle.engine_terms.specs.declared.error.OciDistributionError.TheVariants as refusal
use Rattle.json_values.specs.Refusals.{◌>>=◌ as ◌into◌}
use Rattle.engine_requests.specs.Addresses.{manifest_text, url_read}
use Rattle.engine_answers.specs.Answers.{is_success, is_client_error, envelope_in, by_envelope, refused_answer, accepted, header_digest, body_digest, answer_digest, document_in}
use Rattle.engine_rows.specs.Rows.{Row, store, whole, whole_reply, prepared}
use Rattle.engine_rows.specs.Pulls.{document, manifest_document, pull_manifest_raw}
use Rattle.engine_rows.specs.Causes.{Act, Reads, Sends, AsksAt, ManifestUrl, LastAsked, LastAnswer, LastFailed, LastTooLong, IsClientError, DigestCause, AnswerCause, ByLast, OwnDigest}
use Rattle.request_laws.proofs.EarlyCauses.{Loose}
use Rattle.request_laws.proofs.PreparedRequests.{asks_of, Prepared}
use Rattle.request_laws.proofs.DocumentAnswers.{accepted_is, url_is}
use Rattle.request_laws.proofs.DigestErrors.{header_cause, digest_err, validated_cause}
use Rattle.request_laws.proofs.EarlyCauses.{EarlyCause, Early, read_early, prepared_causes, store_causes}

-- ---- the last exchange

-- in the conversation of a request whose redirects are followed
abbrev pub asked_last : (T : Act → Type 0) {request : Request} {reading : AnswerHead → Reading} {m : ℕ} {c : List Exchange} {after : ℕ} {last : Request} {reply : Reply} (h : Heard 10 request reading m c after last reply) → T (Sends request) → LastAsked T c h.exchange
asked_last T {request} {m = m} h own = record {
  front = [];
  redirects = h.redirects;
  split = h.split;
  request = request;
  own = own;
  before = m;
  left = h.left;
  count = h.before;
  trail = subst (λ r. Trail 10 request m h.redirects h.left r h.before) (sym h.replies.request_is) h.trail;
}

-- and after other exchanges
abbrev pub asked_later : (T U : Act → Type 0) (c : List Exchange) {d : List Exchange} {last : Exchange} → ((act : Act) → T act → U act) → LastAsked T d last → LastAsked U (c ++ d) last
asked_later T U c acts a = record {
  front = c ++ a.front;
  redirects = a.redirects;
  split = ap (λ x. c ++ x) a.split ∙ sym (append_assoc c a.front (a.redirects ++ _ ∷ []));
  request = a.request;
  own = acts (Sends a.request) a.own;
  before = a.before;
  left = a.left;
  count = a.count;
  trail = a.trail;
}

pub answer_later : (T U : Act → Type 0) (c : List Exchange) {d : List Exchange} {address : List ℕ} {answer : Answer} → ((act : Act) → T act → U act) → LastAnswer T d address answer → LastAnswer U (c ++ d) address answer
answer_later T U c acts a = record { last = a.last; asked = asked_later T U c acts a.asked; sent = a.sent; answered = a.answered; final = a.final }

pub last_later : (T U : Act → Type 0) {P : List ℕ → Answer → Type 0} (Q : List ℕ → Answer → Type 0) (c : List Exchange) {d : List Exchange} → ((act : Act) → T act → U act) → ((address : List ℕ) (answer : Answer) → P address answer → Q address answer) → ByLast T P d → ByLast U Q (c ++ d)
last_later T U Q c acts more b = record { address = b.address; answer = b.answer; last = answer_later T U c acts b.last; holds = more b.address b.answer b.holds }

-- a cause is still one after other exchanges
pub cause_later : (T U : Act → Type 0) (P Q : List ℕ → Answer → OciDistributionError → Type 0) (s : Settings) (types : List ℕ) (now : ℕ) (c d : List Exchange) (e : OciDistributionError) → ((act : Act) → T act → U act) → ((address : List ℕ) (answer : Answer) → P address answer e → Q address answer e) → Loose T P s types d now e → Loose U Q s types (c ++ d) now e
cause_later T U P Q s types now c d (refusal.UrlParseError text) acts more h = (h.0, acts (Reads text) h.1)
cause_later T U P Q s types now c d (refusal.GenericError HeaderText) acts more h = h
cause_later T U P Q s types now c d refusal.BodyTooLong acts more h = record { last = h.last; asked = asked_later T U c acts h.asked; answer = h.answer; answered = h.answered; long = h.long }
cause_later T U P Q s types now c d refusal.TransportFault acts more h = record { last = h.last; asked = asked_later T U c acts h.asked; rose = h.rose }
cause_later T U P Q s types now c d refusal.WantOfMemory acts more h = tt
cause_later T U P Q s types now c d e acts more h = last_later T U (λ address answer. Q address answer e) c acts more h

pub early_cause : (T : Act → Type 0) (Of : List ℕ → Answer → OciDistributionError → Type 0) (s : Settings) (types : List ℕ) (now : ℕ) (c : List Exchange) (e : OciDistributionError) → EarlyCause T e → Loose T Of s types c now e
early_cause T Of s types now c (refusal.UrlParseError text) h = h
early_cause T Of s types now c (refusal.GenericError HeaderText) h = h
early_cause T Of s types now c refusal.WantOfMemory h = tt
early_cause T Of s types now c e h = absurd h

-- what the last response shows
pub answer_cause : (T : Act → Type 0) (Given : List ℕ → Type 0) (s : Settings) (types : List ℕ) (now : ℕ) (c : List Exchange) (address : List ℕ) (answer : Answer) (e : OciDistributionError) → LastAnswer T c address answer → AnswerCause Given address answer e → Loose T (AnswerCause Given) s types c now e
answer_cause T Given s types now c address answer (refusal.UrlParseError text) last h = absurd h
answer_cause T Given s types now c address answer (refusal.GenericError HeaderText) last h = absurd h
answer_cause T Given s types now c address answer refusal.BodyTooLong last h = absurd h
answer_cause T Given s types now c address answer refusal.TransportFault last h = absurd h
answer_cause T Given s types now c address answer refusal.WantOfMemory last h = absurd h
answer_cause T Given s types now c address answer e last h = record { address = address; answer = answer; last = last; holds = h }

-- ---- the status

pub status_is : (status n : ℕ) → nat_eq status n ≡ true → status ≡ n
status_is status n h = grind (arith, nat_tests, h)

pub status_other : (status n : ℕ) → nat_eq status n ≡ false → status ≢ n
status_other status n h = grind (arith, nat_tests, h)

by_list : (Given : List ℕ → Type 0) (address : List ℕ) (answer : Answer) (o : Option OciEnvelope) → IsClientError answer → envelope_in answer.body ≡ o → AnswerCause Given address answer (by_envelope address answer o)
by_list Given address answer (Some envelope) client is = (refl, client, is)
by_list Given address answer None client is = (refl, inl (client, is), refl, refl)

by_client : (Given : List ℕ → Type 0) (address : List ℕ) (answer : Answer) (b : Bool) → is_client_error answer.status ≡ b → is_success answer.status ≡ false → answer.status ≢ 401 → AnswerCause Given address answer (if b then by_envelope address answer (envelope_in answer.body) else refusal.ServerError answer.status address answer.body)
by_client Given address answer true client success other = by_list Given address answer (envelope_in answer.body) (record { status = client; other = other }) refl
by_client Given address answer false client success other = (refl, inr (success, client), refl, refl)

by_success : (Given : List ℕ → Type 0) (address : List ℕ) (answer : Answer) (b : Bool) → is_success answer.status ≡ b → answer.status ≢ 200 → answer.status ≢ 401 → AnswerCause Given address answer (if b then refusal.SpecViolationError (Status 200 answer.status address) else (if is_client_error answer.status then by_envelope address answer (envelope_in answer.body) else refusal.ServerError answer.status address answer.body))
by_success Given address answer true success not_ok other = (refl, refl, refl, success, not_ok)
by_success Given address answer false success not_ok other = by_client Given address answer (is_client_error answer.status) refl success other

by_401 : (Given : List ℕ → Type 0) (address : List ℕ) (answer : Answer) (b : Bool) → nat_eq answer.status 401 ≡ b → answer.status ≢ 200 → AnswerCause Given address answer (if b then refusal.UnauthorizedError address else (if is_success answer.status then refusal.SpecViolationError (Status 200 answer.status address) else (if is_client_error answer.status then by_envelope address answer (envelope_in answer.body) else refusal.ServerError answer.status address answer.body)))
by_401 Given address answer true test not_ok = (refl, status_is answer.status 401 test)
by_401 Given address answer false test not_ok = by_success Given address answer (is_success answer.status) refl not_ok (status_other answer.status 401 test)

-- a response with another status than 200 is refused for it
pub status_cause : (Given : List ℕ → Type 0) (address : List ℕ) (answer : Answer) → answer.status ≢ 200 → AnswerCause Given address answer (refused_answer 200 address answer)
status_cause Given address answer not_ok = by_401 Given address answer (nat_eq answer.status 401) refl not_ok

accepted_cause : (Given : List ℕ → Type 0) (address : List ℕ) (answer : Answer) (e : OciDistributionError) (b : Bool) → nat_eq answer.status 200 ≡ b → ◌≡◌ {A = Result Answer OciDistributionError} (if b then Ok answer else Err (refused_answer 200 address answer)) (Err e) → AnswerCause Given address answer e
accepted_cause Given address answer e true test is = absurd (cc is)
accepted_cause Given address answer e false test is = let same : refused_answer 200 address answer ≡ e = cc is in subst (AnswerCause Given address answer) same (status_cause Given address answer (status_other answer.status 200 test))

pub not_accepted : (Given : List ℕ → Type 0) (address : List ℕ) (answer : Answer) (e : OciDistributionError) → accepted 200 address answer ≡ Err e → AnswerCause Given address answer e
not_accepted Given address answer e is = accepted_cause Given address answer e (nat_eq answer.status 200) refl is

-- ---- documents

-- a step that returned an error, or the one after it
pub into_err : {A B E : Type 0} (r : Result A E) (f : A → Result B E) (e : E) → (r into f) ≡ Err e → (r ≡ Err e) ⊎ ((a : A) × (r ≡ Ok a) × (f a ≡ Err e))
into_err (Ok a) f e is = inr (a, refl, is)
into_err {A} {B} {E} (Err x) f e is = let same : x ≡ e = err_same x e is in inl (ap Err same) where
  err_same : (x e : E) → ◌≡◌ {A = Result B E} (Err x) (Err e) → x ≡ e
  err_same x e is = cc is

digest_refused : (Given : List ℕ → Type 0) (address : List ℕ) (answer : Answer) (e : OciDistributionError) (x : DigestError) → e ≡ refusal.DigestError x → DigestCause Given answer x → AnswerCause Given address answer e
digest_refused Given address answer e x is h = subst (AnswerCause Given address answer) (sym is) h

-- the header's digest was refused
pub header_refused : (Given : List ℕ → Type 0) (address : List ℕ) (answer : Answer) (e : OciDistributionError) → header_digest answer.headers ≡ Err e → AnswerCause Given address answer e
header_refused Given address answer e is =
    let x = digest_err (digest_in (first_of digest_header answer.headers)) e is in
    digest_refused Given address answer e x.0 x.1 (header_cause Given answer (first_of digest_header answer.headers) x.0 refl x.2)

body_refused : (image : Reference) (address : List ℕ) (answer : Answer) (header : Option (List ℕ)) (e : OciDistributionError) → header_digest answer.headers ≡ Ok header → body_digest answer.body header (digest_of image) ≡ Err e → AnswerCause (OwnDigest image) address answer e
body_refused image address answer header e named is =
    let x = digest_err (validated answer.body header (digest_of image)) e is in
    digest_refused (OwnDigest image) address answer e x.0 x.1 (validated_cause (OwnDigest image) answer header (digest_of image) x.0 named (λ text h. h) x.2)

of_digest : (image : Reference) (address : List ℕ) (answer : Answer) (e : OciDistributionError) → (header_digest answer.headers ≡ Err e) ⊎ ((header : Option (List ℕ)) × (header_digest answer.headers ≡ Ok header) × (body_digest answer.body header (digest_of image) ≡ Err e)) → AnswerCause (OwnDigest image) address answer e
of_digest image address answer e (inl is) = header_refused (OwnDigest image) address answer e is
of_digest image address answer e (inr h) = body_refused image address answer h.0 e h.1 h.2

after_digest : (image : Reference) (address : List ℕ) (answer : Answer) (e : OciDistributionError) → (answer_digest image answer ≡ Err e) ⊎ ((digest : List ℕ) × (answer_digest image answer ≡ Ok digest) × (◌≡◌ {A = Result (List ℕ × List ℕ) OciDistributionError} (Ok (answer.body, digest)) (Err e))) → AnswerCause (OwnDigest image) address answer e
after_digest image address answer e (inl is) = of_digest image address answer e (into_err (header_digest answer.headers) (λ header. body_digest answer.body header (digest_of image)) e is)
after_digest image address answer e (inr h) = absurd (cc (h.2))

of_document : (image : Reference) (got : Got) (e : OciDistributionError) → (accepted 200 got.url got.answer ≡ Err e) ⊎ ((answer : Answer) × (accepted 200 got.url got.answer ≡ Ok answer) × (◌into◌ {B = List ℕ × List ℕ} (answer_digest image answer) (λ digest. Ok (answer.body, digest)) ≡ Err e)) → AnswerCause (OwnDigest image) got.url got.answer e
of_document image got e (inl is) = not_accepted (OwnDigest image) got.url got.answer e is
of_document image got e (inr h) =
    let same = (accepted_is got.url got.answer h.0 h.1).1 in
    after_digest image got.url got.answer e (into_err (answer_digest image got.answer) (λ digest. Ok (got.answer.body, digest)) e (subst (λ (a : Answer). ◌into◌ {B = List ℕ × List ℕ} (answer_digest image a) (λ digest. Ok (a.body, digest)) ≡ Err e) same h.2))

-- the document was refused
pub document_cause : (image : Reference) (got : Got) (e : OciDistributionError) → document_in image got ≡ Err e → AnswerCause (OwnDigest image) got.url got.answer e
document_cause image got e is = of_document image got e (into_err (accepted 200 got.url got.answer) (λ answer. answer_digest image answer into λ digest. Ok (answer.body, digest)) e is)

-- ---- whole responses

read_never : (limit : ℕ) (head : AnswerHead) → read_within limit head ≡ NotRead → ⊥
unfolding read_within
read_never limit head is = cc is

read_limit : (limit n : ℕ) (head : AnswerHead) → limit_of (read_within limit head) ≡ Some n → limit ≡ n
unfolding read_within
read_limit limit n head is = cc is

piped_never : (limit n : ℕ) (head : AnswerHead) → read_within limit head ≡ Piped n → ⊥
unfolding read_within
piped_never limit n head is = cc is

-- the response that a request led to
pub heard_answer : (T : Act → Type 0) {request : Request} {reading : AnswerHead → Reading} {m : ℕ} {c : List Exchange} {after : ℕ} {last : Request} {reply : Reply} (h : Heard 10 request reading m c after last reply) → T (Sends request) → (answer : Answer) → h.exchange.answer ≡ Some answer → IsFinal h.left last (head_part answer) → LastAnswer T c last.url answer
heard_answer T h own answer is final = record {
  last = h.exchange;
  asked = asked_last T h own;
  sent = ap (λ (r : Request). r.url) h.replies.request_is;
  answered = is;
  final = subst (λ r. IsFinal h.left r (head_part answer)) (sym h.replies.request_is) final;
}

pub heard_failed : (T : Act → Type 0) {request : Request} {reading : AnswerHead → Reading} {m : ℕ} {c : List Exchange} {after : ℕ} {last : Request} (h : Heard 10 request reading m c after last Failed) → T (Sends request) → LastFailed T c after
heard_failed T h own = record { last = h.exchange; asked = asked_last T h own; rose = h.replies.reply_is }

pub heard_long : (T : Act → Type 0) {request : Request} {reading : AnswerHead → Reading} {m : ℕ} {c : List Exchange} {after : ℕ} {last : Request} (h : Heard 10 request reading m c after last TooLong) (limit : ℕ) → T (Sends request) → ((n : ℕ) (head : AnswerHead) → limit_of (reading head) ≡ Some n → limit ≡ n) → LastTooLong T c limit
heard_long T {reading = reading} h limit own within =
    let b = h.replies.reply_is in
    record { last = h.exchange; asked = asked_last T h own; answer = b.0; answered = b.2; long = rw (within b.1 (head_part b.0) b.3) b.4 }

-- the whole last response
abbrev Whole : (Act → Type 0) → ℕ → List Exchange → ℕ → Got → Type 0
Whole T m c n got = LastAnswer T c got.url got.answer

whole_run : (T : Act → Type 0) (Of : List ℕ → Answer → OciDistributionError → Type 0) (s : Settings) (types : List ℕ) (request : Request) → T (Sends request) → (k l : AuthState) (m after o : ℕ) (c d : List Exchange) (last : Request) (reply : Reply) (r : Result Got OciDistributionError) → Heard 10 request (read_within s.max_body_bytes) m c after last reply → Runs (whole_reply last reply) k after d o l r → ByResult (Whole T) (λ m c n e. Loose T Of s types c n e) m (c ++ d) o r
whole_run T Of s types request own k l m after o c d last (Headed head) r h run = absurd (read_never s.max_body_bytes head h.replies.reply_is.2)
whole_run T Of s types request own k l m after o c d last (Answered answer) r h run = done_run (λ start d o r. ByResult (Whole T) (λ m c n e. Loose T Of s types c n e) m (c ++ d) o r) (Ok (record { url = last.url; answer = answer })) k l after o d r (rw append-nil (heard_answer T h own answer h.replies.reply_is.1 h.settles)) run
whole_run T Of s types request own k l m after o c d last Failed r h run = done_run (λ start d o r. ByResult (Whole T) (λ m c n e. Loose T Of s types c n e) m (c ++ d) o r) (Err refusal.TransportFault) k l after o d r (rw append-nil (heard_failed T h own)) run
whole_run T Of s types request own k l m after o c d last TooLong r h run = done_run (λ start d o r. ByResult (Whole T) (λ m c n e. Loose T Of s types c n e) m (c ++ d) o r) (Err refusal.BodyTooLong) k l after o d r (rw append-nil (heard_long T h s.max_body_bytes own (read_limit s.max_body_bytes))) run
whole_run T Of s types request own k l m after o c d last SinkFailed r h run = let b = h.replies.reply_is in absurd (piped_never s.max_body_bytes b.1 (head_part b.0) b.3)

pub whole_causes : (T : Act → Type 0) (Of : List ℕ → Answer → OciDistributionError → Type 0) (s : Settings) (types : List ℕ) (request : Request) → T (Sends request) → EveryRun (ByResult (Whole T) (λ m c n e. Loose T Of s types c n e)) (whole 10 request s.max_body_bytes)
unfolding whole
whole_causes T Of s types request own = EveryRun-follow (ByResult (Whole T) (λ m c n e. Loose T Of s types c n e)) 10 request (read_within s.max_body_bytes) whole_reply (whole_run T Of s types request own)

-- the last response was accepted, and the bytes are its body
abbrev pub Accepted : Settings → Reference → List Exchange → List ℕ → Type 0
Accepted s image c bytes = ByLast (ManifestUrl s image) (λ address answer. (answer.status ≡ 200) × (bytes ≡ answer.body)) c

found_accepted : (s : Settings) (image : Reference) (got : Got) (found : List ℕ × List ℕ) (c : List Exchange) → LastAnswer (ManifestUrl s image) c got.url got.answer → document_in image got ≡ Ok found → Accepted s image c found.0
found_accepted s image got found c last is =
    let first = into_good (accepted 200 got.url got.answer) (λ answer. answer_digest image answer into λ digest. Ok (answer.body, digest)) found is in
    let good = accepted_is got.url got.answer first.0 first.1 in
    let second = into_good (answer_digest image first.0) (λ digest. Ok (first.0.body, digest)) found first.2 in
    let pair = ok_same (first.0.body, second.0) found second.2 in
    record { address = got.url; answer = got.answer; last = last; holds = (good.0, sym (ap (λ p. p.0) pair) ∙ ap (λ (a : Answer). a.body) good.1) } where
      into_good : {A B : Type 0} (r : Result A OciDistributionError) (f : A → Result B OciDistributionError) (b : B) → (r into f) ≡ Ok b → (a : A) × (r ≡ Ok a) × (f a ≡ Ok b)
      into_good (Ok a) f b is = (a, refl, is)
      into_good (Err e) f b is = absurd (cc is)

      ok_same : (a b : List ℕ × List ℕ) → ◌≡◌ {A = Result (List ℕ × List ℕ) OciDistributionError} (Ok a) (Ok b) → a ≡ b
      ok_same a b is = cc is

-- why a response's digest or document was refused
abbrev pub OwnCause : Settings → Reference → List ℕ → ℕ → List Exchange → ℕ → OciDistributionError → Type 0
OwnCause s image types m c n e = Loose (ManifestUrl s image) (AnswerCause (OwnDigest image)) s types c n e

got_causes : (s : Settings) (image : Reference) (types : List ℕ) (request : Request) → ManifestUrl s image (Sends request) → EveryRun (ByResult (λ m c n found. Accepted s image c found.0) (OwnCause s image types)) (whole 10 request s.max_body_bytes >>= λ got. Done (document_in image got))
got_causes s image types request own = EveryRun-each (Whole (ManifestUrl s image)) (λ m c n found. Accepted s image c found.0) (OwnCause s image types) (whole 10 request s.max_body_bytes) (λ got. Done (document_in image got)) (whole_causes (ManifestUrl s image) (AnswerCause (OwnDigest image)) s types request own)
    (λ m n c got last. EveryRun-last (λ start d o found. Accepted s image (c ++ d) found.0) (λ start d o e. OwnCause s image types m (c ++ d) o e) (document_in image got)
    (λ found is o. rw append-nil (found_accepted s image got found c last is))
    (λ e is o. subst (λ x. OwnCause s image types m x o e) (sym (append-nil c)) (answer_cause (ManifestUrl s image) (OwnDigest image) s types o c got.url got.answer e last (document_cause image got e is))))

-- after other exchanges
pub accepted_later : (s : Settings) (image : Reference) (c : List Exchange) {d : List Exchange} {bytes : List ℕ} → Accepted s image d bytes → Accepted s image (c ++ d) bytes
accepted_later s image c {bytes = bytes} h = last_later (ManifestUrl s image) (ManifestUrl s image) (λ address answer. (answer.status ≡ 200) × (bytes ≡ answer.body)) c (λ act h. h) (λ address answer h. h) h

pub found_later : (s : Settings) (image : Reference) (types : List ℕ) (c : List Exchange) (m start o : ℕ) (d : List Exchange) (r : Result (List ℕ × List ℕ) OciDistributionError) → ByResult (λ m c n found. Accepted s image c found.0) (OwnCause s image types) start d o r → ByResult (λ m c n found. Accepted s image c found.0) (OwnCause s image types) m (c ++ d) o r
found_later s image types c m start o d (Ok found) h = accepted_later s image c h
found_later s image types c m start o d (Err e) h = cause_later (ManifestUrl s image) (ManifestUrl s image) (AnswerCause (OwnDigest image)) (AnswerCause (OwnDigest image)) s types o c d e (λ text h. h) (λ address answer h. h) h

-- a step before the request was refused
early_where : (T : Act → Type 0) {A : Type 0} (Of : List ℕ → Answer → OciDistributionError → Type 0) (s : Settings) (types : List ℕ) (P : ℕ → List Exchange → ℕ → A → Type 0) (m n : ℕ) (c : List Exchange) (r : Result A OciDistributionError) → ByResult P (λ m c n e. EarlyCause T e) m c n r → ByResult P (λ m c n e. Loose T Of s types c n e) m c n r
early_where T Of s types P m n c (Ok a) h = h
early_where T Of s types P m n c (Err e) h = early_cause T Of s types n c e h

pub early_shown : (T : Act → Type 0) {A : Type 0} (Of : List ℕ → Answer → OciDistributionError → Type 0) (s : Settings) (types : List ℕ) (P : ℕ → List Exchange → ℕ → A → Type 0) (p : Row A) → EveryRun (ByResult P (λ m c n e. EarlyCause T e)) p → EveryRun (ByResult P (λ m c n e. Loose T Of s types c n e)) p
early_shown T Of s types P p h = EveryRun-more (ByResult P (λ m c n e. EarlyCause T e)) (ByResult P (λ m c n e. Loose T Of s types c n e)) p h (early_where T Of s types P)

-- a URL was malformed
pub url_cause : (T : Act → Type 0) (Of : List ℕ → Answer → OciDistributionError → Type 0) (s : Settings) (types text : List ℕ) (now : ℕ) (c : List Exchange) (e : OciDistributionError) → T (Reads text) → url_read text ≡ Err e → Loose T Of s types c now e
url_cause T Of s types text now c e here is = early_cause T Of s types now c e (by_read (url_read text) is (read_early T s types text here)) where
  by_read : (r : Result Parts OciDistributionError) → r ≡ Err e → Early T r → EarlyCause T e
  by_read (Ok url) is h = absurd (cc is)
  by_read (Err x) is h = let same : x ≡ e = cc is in subst (EarlyCause T) same h

-- the prepared request is the call's own
pub asks_at : (s : Settings) (image : Reference) (op : RegistryOperation) (method : Method) (url : Parts) (types : List ℕ) (c : List Exchange) (request : Request) → Prepared s image op method url types c request → AsksAt s url request
asks_at s image op method url types c request p = (method, types, asks_of s method url (Some types) p.token request p.made)

pub manifest_own : (s : Settings) (image : Reference) (method : Method) (url : Parts) (types : List ℕ) (c : List Exchange) (request : Request) → url_read (manifest_text s image) ≡ Ok url → Prepared s image Pull method url types c request → ManifestUrl s image (Sends request)
manifest_own s image method url types c request is p = (url, url_is (manifest_text s image) (request_url (manifest_text s image)) url is, asks_at s image Pull method url types c request p)

pub document_causes : (s : Context) (image : Reference) (url : Parts) (types : List ℕ) → url_read (manifest_text s.settings image) ≡ Ok url → EveryRun (ByResult (λ m c n found. Accepted s.settings image c found.0) (OwnCause s.settings image types)) (document s image url types)
unfolding document
document_causes s image url types is = EveryRun-each (λ m c n request. Prepared s.settings image Pull Get url types c request) (λ m c n found. Accepted s.settings image c found.0) (OwnCause s.settings image types) (prepared s image Pull Get url types) (λ request. whole 10 request s.settings.max_body_bytes >>= λ got. Done (document_in image got))
    (early_shown (ManifestUrl s.settings image) (AnswerCause (OwnDigest image)) s.settings types (λ m c n request. Prepared s.settings image Pull Get url types c request) (prepared s image Pull Get url types) (prepared_causes (ManifestUrl s.settings image) s image Pull Get url types (inl refl)))
    (λ m n c request p. EveryRun-more (ByResult (λ m c n found. Accepted s.settings image c found.0) (OwnCause s.settings image types)) (λ start d o r. ByResult (λ m c n found. Accepted s.settings image c found.0) (OwnCause s.settings image types) m (c ++ d) o r) (whole 10 request s.settings.max_body_bytes >>= λ got. Done (document_in image got)) (got_causes s.settings image types request (manifest_own s.settings image Get url types c request is p)) (λ start o d r h. found_later s.settings image types c m start o d r h))

pub raw_causes : (s : Context) (image : Reference) (a : RegistryAuth) (types : List ℕ) → EveryRun (ByResult (λ m c n found. Accepted s.settings image c found.0) (OwnCause s.settings image types)) (pull_manifest_raw s image a types)
unfolding pull_manifest_raw manifest_document
raw_causes s image a types = EveryRun-each (λ m c n u. Unit {0}) (λ m c n found. Accepted s.settings image c found.0) (OwnCause s.settings image types) (store image a) (λ u. Done (url_read (manifest_text s.settings image)) >>= λ url. document s image url types)
    (early_shown (ManifestUrl s.settings image) (AnswerCause (OwnDigest image)) s.settings types (λ m c n u. Unit {0}) (store image a) (store_causes (ManifestUrl s.settings image) s.settings types image a))
    (λ m n c u h. EveryRun-step (λ start d o r. ByResult (λ m c n found. Accepted s.settings image c found.0) (OwnCause s.settings image types) m (c ++ d) o r) (url_read (manifest_text s.settings image)) (λ url. document s image url types)
    (λ url is. EveryRun-more (ByResult (λ m c n found. Accepted s.settings image c found.0) (OwnCause s.settings image types)) (λ start d o r. ByResult (λ m c n found. Accepted s.settings image c found.0) (OwnCause s.settings image types) m (c ++ d) o r) (document s image url types) (document_causes s image url types is) (λ start o d r h. found_later s.settings image types c m start o d r h))
    (λ e is o. url_cause (ManifestUrl s.settings image) (AnswerCause (OwnDigest image)) s.settings types (manifest_text s.settings image) o (c ++ []) e (inr refl) is))
