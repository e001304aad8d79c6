-- Which properties the calls have that return a document.
use Rattle.std.proofs.Common.{◌≡◌, ℕ, Bool, true, false, List, [], ◌∷◌, ◌++◌, Option, Some, None, Result, Ok, Err, refl, sym, ap, subst, ◌∙◌, append_assoc, append-nil, arith}
use Rattle.std.specs.Prelude.{nat_eq, if◌then◌else◌}
use Rattle.std.proofs.lemmas.Bool.Decides.{nat_tests}
use Rattle.url.specs.Parts.{Parts}
use Rattle.oci_transport.specs.declared.message.Request.{Request}
use Rattle.oci_transport.specs.declared.message.Answer.{Answer}
use Rattle.oci_transport.specs.declared.message.AnswerHead.{AnswerHead}
use Rattle.oci_transport.specs.declared.message.Exchange.{Exchange}
use Rattle.oci_transport.specs.declared.message.Method.{Method}
use Rattle.oci_transport.specs.declared.message.Method.TheVariants.{Get}
use Rattle.oci_names.specs.declared.reference.Reference.{Reference}
use Rattle.oci_names.specs.Reference.{digest_of}
use Rattle.oci_digests.specs.Names.{Names}
use Rattle.oci_digests.specs.Checks.{validated}
use Rattle.oci_digests.specs.Validates.{Validates}
use Rattle.oci_names.specs.declared.algorithm.Algorithm.TheVariants.{Sha256}
use Rattle.oci_digests.specs.declared.error.DigestError.{DigestError}
use Rattle.oci_digests.proofs.ExactChecks.{validates}
use Rattle.oci_auth.specs.declared.auth.RegistryAuth.{RegistryAuth}
use Rattle.oci_auth.specs.declared.auth_state.AuthState.{AuthState}
use Rattle.oci_auth.specs.declared.token_type.RegistryOperation.{RegistryOperation}
use Rattle.oci_auth.specs.declared.token_type.RegistryOperation.TheVariants.{Pull}
use Rattle.oci_protocol.specs.Proto.{Reading, Reply, Headed, Answered, Failed, TooLong, SinkFailed, read_within, Done, ◌>>=◌}
use Rattle.oci_protocol.specs.Runs.{head_part, Runs}
use Rattle.oci_protocol.specs.Follow.{Trail, IsFinal}
use Rattle.oci_protocol.specs.EveryRun.{EveryRun, WhenOk, Heard}
use Rattle.oci_protocol.proofs.RunFacts.{done_run, EveryRun-more, EveryRun-next, EveryRun-step, EveryRun-last, EveryRun-follow}
use Rattle.engine_answers.specs.declared.answers.Got.{Got}
use Rattle.engine_terms.specs.Contexts.{Context}
use Rattle.engine_terms.specs.declared.settings.Settings.{Settings}
use Rattle.engine_terms.specs.declared.error.OciDistributionError.{OciDistributionError}
use Rattle.engine_terms.specs.declared.error.OciDistributionError.TheVariants as refusal
use Rattle.json_values.specs.Refusals.{◌>>=◌ as ◌into◌}
use Rattle.engine_requests.specs.Addresses.{manifest_text, url_or, url_read}
use Rattle.engine_answers.specs.Answers.{accepted, refused_answer, or_digest_error, header_digest, body_digest, answer_digest, document_in}
use Rattle.engine_rows.specs.Rows.{store, whole, whole_reply, prepared}
use Rattle.engine_rows.specs.Pulls.{manifest_document, document, pull_manifest_raw}
use Rattle.engine_rows.specs.Answered.{OfTokenStep, Asks, LedTo, FirstAsked, Body, Document}
use Rattle.request_laws.proofs.PreparedRequests.{asks_of, into_ok, Silent, silent_store, Prepared, prepared_shows}

-- ---- conversations

-- a request whose redirects are followed led to the response in the conversation
pub led_of : {request : Request} {reading : AnswerHead → Reading} {m : ℕ} {c : List Exchange} {after : ℕ} {last : Request} {reply : Reply} (h : Heard 10 request reading m c after last reply) (answer : Answer) → h.exchange.answer ≡ Some answer → IsFinal h.left last (head_part answer) → LedTo request c answer
led_of {request} {m = m} h answer is final =
    let same = sym h.replies.request_is in
    record {
      redirects = h.redirects;
      last = h.exchange;
      split = h.split;
      before = m;
      left = h.left;
      count = h.before;
      trail = subst (λ r. Trail 10 request m h.redirects h.left r h.before) same h.trail;
      answered = is;
      final = subst (λ r. IsFinal h.left r (head_part answer)) same final;
    }

-- after a token step
abbrev pub first_asked : {s : Settings} {image : Reference} {op : RegistryOperation} {method : Method} {url : Parts} {types : Option (List ℕ)} (c exchanges after d : List Exchange) (request : Request) (answer : Answer) → OfTokenStep s image op c → Asks s method url types request → LedTo request exchanges answer → d ≡ exchanges ++ after → FirstAsked s image op method url types (c ++ d)
first_asked c exchanges after d request answer step asks led split = record {
  before = c;
  step = step;
  request = request;
  asks = asks;
  exchanges = exchanges;
  answer = answer;
  led = led;
  after = after;
  split = ap (λ x. c ++ x) split ∙ sym (append_assoc c exchanges after);
}

-- the body of a response is still one in a longer conversation
pub body_before : {c : List Exchange} (d : List Exchange) {bytes : List ℕ} → Body c bytes → Body (c ++ d) bytes
body_before d b = record { before = b.before; exchange = b.exchange; after = b.after ++ d; split = ap (λ x. x ++ d) b.split ∙ append_assoc b.before (b.exchange ∷ b.after) d; answer = b.answer; answered = b.answered; body = b.body }

pub body_after : (c : List Exchange) {d : List Exchange} {bytes : List ℕ} → Body d bytes → Body (c ++ d) bytes
body_after c b = record { before = c ++ b.before; exchange = b.exchange; after = b.after; split = ap (λ x. c ++ x) b.split ∙ sym (append_assoc c b.before (b.exchange ∷ b.after)); answer = b.answer; answered = b.answered; body = b.body }

pub body_led : {request : Request} {c : List Exchange} {answer : Answer} → LedTo request c answer → Body c answer.body
body_led {answer = answer} led = record { before = led.redirects; exchange = led.last; after = []; split = led.split; answer = answer; answered = led.answered; body = refl }

pub body_first : {s : Settings} {image : Reference} {op : RegistryOperation} {method : Method} {url : Parts} {types : Option (List ℕ)} {c : List Exchange} (first : FirstAsked s image op method url types c) → Body c first.answer.body
body_first first = subst (λ c. Body c first.answer.body) (sym first.split) (body_before first.after (body_after first.before (body_led first.led)))

-- ---- responses that are accepted

status_is : (status : ℕ) → nat_eq status 200 ≡ true → status ≡ 200
status_is status h = grind (arith, nat_tests, h)

pub accepted_is : (url : List ℕ) (answer a : Answer) → accepted 200 url answer ≡ Ok a → (answer.status ≡ 200) × (a ≡ answer)
accepted_is url answer a = by_test (nat_eq answer.status 200) refl where
  by_test : (b : Bool) → nat_eq answer.status 200 ≡ b → (if b then Ok answer else Err (refused_answer 200 url answer)) ≡ Ok a → (answer.status ≡ 200) × (a ≡ answer)
  by_test true test is = (status_is answer.status test, cc is)
  by_test false test is = absurd (cc is)

pub digest_ok : {A : Type 0} (r : Result A DigestError) (a : A) → or_digest_error r ≡ Ok a → r ≡ Ok a
digest_ok (Ok b) a is = cc is
digest_ok (Err e) a is = absurd (cc is)

-- the returned text names the body
pub names_of : (body : List ℕ) (header reference : Option (List ℕ)) (text : List ℕ) → Validates body header reference text → Names text body
names_of body (Some h) reference text v = subst (λ t. Names t body) (sym v.answer) v.header_names
names_of body None (Some r) text v = subst (λ t. Names t body) (sym v.answer) v.reference_names
names_of body None None text v = (Sha256, v.answer)

own_names : (body : List ℕ) (header reference : Option (List ℕ)) (text own : List ℕ) → Validates body header reference text → reference ≡ Some own → Names own body
own_names body header (Some r) text own v is = let same : r ≡ own = cc is in subst (λ t. Names t body) same v.reference_names
own_names body header None text own v is = absurd (cc is)

-- the body of an accepted response was validated
pub record Validly (image : Reference) (answer : Answer) (found : List ℕ × List ℕ) : Type 0 where
  pub status : answer.status ≡ 200
  pub header : Option (List ℕ)
  pub header_is : header_digest answer.headers ≡ Ok header
  pub body : found.0 ≡ answer.body
  pub validates : Validates answer.body header (digest_of image) found.1

validly_of : (image : Reference) (got : Got) (found : List ℕ × List ℕ) → document_in image got ≡ Ok found → Validly image got.answer found
validly_of image got found is =
    let first = into_ok (accepted 200 got.url got.answer) (λ answer. answer_digest image answer into λ digest. Ok (answer.body, digest)) found is in
    let good = accepted_is got.url got.answer first.0 first.1 in
    let here : (answer_digest image got.answer into λ digest. Ok (got.answer.body, digest)) ≡ Ok found = subst (λ (a : Answer). (answer_digest image a into λ digest. Ok (a.body, digest)) ≡ Ok found) good.1 first.2 in
    let second = into_ok (answer_digest image got.answer) (λ digest. Ok (got.answer.body, digest)) found here in
    let third = into_ok (header_digest got.answer.headers) (λ header. body_digest got.answer.body header (digest_of image)) second.0 second.1 in
    let pair : (got.answer.body, second.0) ≡ found = cc (second.2) in
    record {
      status = good.0;
      header = third.0;
      header_is = third.1;
      body = sym (ap (λ p. p.0) pair);
      validates = subst (λ (d : List ℕ). Validates got.answer.body third.0 (digest_of image) d) (ap (λ p. p.1) pair) (validates got.answer.body third.0 (digest_of image) second.0 (digest_ok (validated got.answer.body third.0 (digest_of image)) second.0 third.2));
    }

-- ---- rows

within_read : (limit : ℕ) (head : AnswerHead) → read_within limit head ≡ Reading.Unread → ⊥
unfolding read_within
within_read limit head is = cc

-- the last response results from the request
whole_run : (request : Request) (limit : ℕ) (k l : AuthState) (m after o : ℕ) (c d : List Exchange) (last : Request) (reply : Reply) (r : Result Got OciDistributionError) → Heard 10 request (read_within limit) m c after last reply → Runs (whole_reply last reply) k after d o l r → WhenOk (λ m c n got. LedTo request c got.answer) m (c ++ d) o r
whole_run request limit k l m after o c d last (Headed head) r h run = absurd (within_read limit head h.replies.reply_is.2)
whole_run request limit k l m after o c d last (Answered answer) r h run = done_run (λ s d o r. WhenOk (λ m c n got. LedTo request c got.answer) m (c ++ d) o r) (Ok (record { url = last.url; answer = answer })) k l after o d r (rw append-nil (led_of h answer h.replies.reply_is.1 h.settles)) run
whole_run request limit k l m after o c d last Failed r h run = done_run (λ s d o r. WhenOk (λ m c n got. LedTo request c got.answer) m (c ++ d) o r) (Err refusal.TransportFault) k l after o d r tt run
whole_run request limit k l m after o c d last TooLong r h run = done_run (λ s d o r. WhenOk (λ m c n got. LedTo request c got.answer) m (c ++ d) o r) (Err refusal.BodyTooLong) k l after o d r tt run
whole_run request limit k l m after o c d last SinkFailed r h run = done_run (λ s d o r. WhenOk (λ m c n got. LedTo request c got.answer) m (c ++ d) o r) (Err refusal.SinkFault) k l after o d r tt run

whole_shows : (request : Request) (limit : ℕ) → EveryRun (WhenOk (λ m c n got. LedTo request c got.answer)) (whole 10 request limit)
unfolding whole
whole_shows request limit = EveryRun-follow (WhenOk (λ m c n got. LedTo request c got.answer)) 10 request (read_within limit) whole_reply (whole_run request limit)

-- the request led to a response that was accepted
record Read (image : Reference) (request : Request) (c : List Exchange) (found : List ℕ × List ℕ) : Type 0 where
  answer : Answer
  led : LedTo request c answer
  validly : Validly image answer found

read_shows : (image : Reference) (request : Request) (limit : ℕ) → EveryRun (WhenOk (λ m c n found. Read image request c found)) (whole 10 request limit >>= λ got. Done (document_in image got))
read_shows image request limit = EveryRun-next (λ m c n got. LedTo request c got.answer) (λ m c n found. Read image request c found) (whole 10 request limit) (λ got. Done (document_in image got)) (whole_shows request limit)
    (λ m n c got led. EveryRun-last (λ s d o found. Read image request (c ++ d) found) (λ s d o e. Unit {0}) (document_in image got) (λ found is o. rw append-nil (record { answer = got.answer; led = led; validly = validly_of image got found is })) (λ e is o. tt))

-- the first GET for the address led to the document
pub record Found (s : Settings) (image : Reference) (url : Parts) (types : List ℕ) (c : List Exchange) (found : List ℕ × List ℕ) : Type 0 where
  pub get : FirstAsked s image Pull Get url (Some types) c
  pub validly : Validly image get.answer found

found_more : (s : Settings) (image : Reference) (url : Parts) (types : List ℕ) (c d : List Exchange) (request : Request) (found : List ℕ × List ℕ) → Prepared s image Pull Get url types c request → Read image request d found → Found s image url types (c ++ d) found
found_more s image url types c d request found p r = record {
  get = first_asked c d [] d request r.answer p.step (asks_of s Get url (Some types) p.token request p.made) r.led (sym (append-nil d));
  validly = r.validly;
}

found_where : (s : Settings) (image : Reference) (url : Parts) (types : List ℕ) (c : List Exchange) (request : Request) → Prepared s image Pull Get url types c request → (m start n : ℕ) (d : List Exchange) (r : Result (List ℕ × List ℕ) OciDistributionError) → WhenOk (λ m c n found. Read image request c found) start d n r → WhenOk (λ m c n found. Found s image url types c found) m (c ++ d) n r
found_where s image url types c request p m start n d (Ok found) r = found_more s image url types c d request found p r
found_where s image url types c request p m start n d (Err e) r = tt

pub document_shows : (s : Context) (image : Reference) (url : Parts) (types : List ℕ) → EveryRun (WhenOk (λ m c n found. Found s.settings image url types c found)) (document s image url types)
unfolding document
document_shows s image url types = EveryRun-next (λ m c n request. Prepared s.settings image Pull Get url types c request) (λ m c n found. Found s.settings image url types c found) (prepared s image Pull Get url types) (λ request. whole 10 request s.settings.max_body_bytes >>= λ got. Done (document_in image got)) (prepared_shows s image Pull Get url types)
    (λ m n c request p. EveryRun-more (WhenOk (λ m c n found. Read image request c found)) (λ start d o r. WhenOk (λ m c n found. Found s.settings image url types c found) m (c ++ d) o r) (whole 10 request s.settings.max_body_bytes >>= λ got. Done (document_in image got)) (read_shows image request s.settings.max_body_bytes) (λ start o d r h. found_where s.settings image url types c request p m start o d r h))

document_of : {s : Settings} {image : Reference} {url : Parts} {types : List ℕ} {c : List Exchange} {found : List ℕ × List ℕ} → Found s image url types c found → Document image c found.0 found.1
document_of {image = image} {c = c} {found = found} f =
    let v = f.validly in
    record {
      body = subst (Body c) (sym v.body) (body_first f.get);
      names = subst (Names found.1) (sym v.body) (names_of f.get.answer.body v.header (digest_of image) found.1 v.validates);
      named = λ own is. subst (Names own) (sym v.body) (own_names f.get.answer.body v.header (digest_of image) found.1 own v.validates is);
    }

pub url_is : (text : List ℕ) (o : Option Parts) (url : Parts) → url_or text o ≡ Ok url → o ≡ Some url
url_is text (Some u) url is = cc is
url_is text None url is = absurd (cc is)

-- after a step that sends no request
document_later : {image : Reference} (c : List Exchange) {d : List Exchange} {bytes digest : List ℕ} → Document image d bytes digest → Document image (c ++ d) bytes digest
document_later c h = record { body = body_after c h.body; names = h.names; named = h.named }

later_where : (s : Settings) (image : Reference) (url : Parts) (types : List ℕ) (c : List Exchange) (m start n : ℕ) (d : List Exchange) (r : Result (List ℕ × List ℕ) OciDistributionError) → WhenOk (λ m c n found. Found s image url types c found) start d n r → WhenOk (λ m c n found. Document image c found.0 found.1) m (c ++ d) n r
later_where s image url types c m start n d (Ok found) f = document_later c (document_of f)
later_where s image url types c m start n d (Err e) f = tt

-- the bytes are those of a response, and the digest names them
pub raw_shows : (s : Context) (image : Reference) (a : RegistryAuth) (types : List ℕ) → EveryRun (WhenOk (λ m c n found. Document image c found.0 found.1)) (pull_manifest_raw s image a types)
unfolding pull_manifest_raw manifest_document
raw_shows s image a types = EveryRun-next (λ m c n u. Unit {0}) (λ m c n found. Document image c found.0 found.1) (store image a) (λ u. Done (url_read (manifest_text s.settings image)) >>= λ url. document s image url types)
    (EveryRun-more Silent (WhenOk (λ m c n u. Unit {0})) (store image a) (silent_store image a) (λ m n c r h. any_where m n c r))
    (λ m n c u h. EveryRun-step (λ start d o r. WhenOk (λ m c n found. Document image c found.0 found.1) m (c ++ d) o r) (url_read (manifest_text s.settings image)) (λ url. document s image url types)
    (λ url is. EveryRun-more (WhenOk (λ m c n found. Found s.settings image url types c found)) (λ start d o r. WhenOk (λ m c n found. Document image c found.0 found.1) m (c ++ d) o r) (document s image url types) (document_shows s image url types) (λ start o d r f. later_where s.settings image url types c m start o d r f))
    (λ e is o. tt)) where
      any_where : {A E : Type 0} (m n : ℕ) (c : List Exchange) (r : Result A E) → WhenOk (λ m c n (u : A). Unit {0}) m c n r
      any_where m n c (Ok u) = tt
      any_where m n c (Err e) = tt
