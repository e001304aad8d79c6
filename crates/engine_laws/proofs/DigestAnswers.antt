-- Which properties the digest has that a registry returned.
use Rattle.std.proofs.Common.{◌≡◌, ◌⊎◌, inl, inr, ℕ, Bool, true, false, List, [], ◌++◌, Option, Some, None, Result, Ok, Err, bytes_eq, refl, sym, ap, subst, ◌∙◌, append_assoc, append-nil}
use Rattle.std.specs.Prelude.{not, ◌&&◌, if◌then◌else◌}
use Rattle.url.specs.Parts.{Parts}
use Rattle.oci_transport.specs.Link.{answer_of}
use Rattle.oci_transport.specs.Urls.{request_url}
use Rattle.oci_transport.specs.declared.message.Request.{Request}
use Rattle.oci_transport.specs.declared.message.Answer.{Answer}
use Rattle.oci_transport.specs.declared.message.Exchange.{Exchange}
use Rattle.oci_transport.specs.declared.message.Method.{Method}
use Rattle.oci_transport.specs.declared.message.Method.TheVariants.{Head}
use Rattle.oci_names.specs.declared.reference.Reference.{Reference}
use Rattle.oci_names.specs.Reference.{digest_of}
use Rattle.oci_digests.specs.Checks.{parts_of}
use Rattle.oci_digests.specs.declared.error.DigestError.TheVariants as digest_refusal
use Rattle.oci_auth.specs.declared.auth.RegistryAuth.{RegistryAuth}
use Rattle.oci_protocol.specs.Proto.{Unread, limit_of, Reply, Headed, Answered, Failed, TooLong, SinkFailed, Done, ◌>>=◌}
use Rattle.oci_protocol.specs.Runs.{Runs}
use Rattle.oci_protocol.specs.EveryRun.{EveryRun, WhenOk, Heard}
use Rattle.oci_protocol.proofs.RunFacts.{done_run, EveryRun-more, EveryRun-next, EveryRun-step, EveryRun-last, EveryRun-follow}
use Rattle.oci_auth.specs.declared.auth_state.AuthState.{AuthState}
use Rattle.oci_auth.specs.declared.token_type.RegistryOperation.{RegistryOperation}
use Rattle.oci_auth.specs.declared.token_type.RegistryOperation.TheVariants.{Pull}
use Rattle.engine_answers.specs.declared.answers.Got.{Got}
use Rattle.engine_terms.specs.Contexts.{Context}
use Rattle.engine_terms.specs.declared.settings.Settings.{Settings}
use Rattle.engine_terms.specs.declared.error.OciDistributionError.{OciDistributionError}
use Rattle.engine_terms.specs.declared.error.OciDistributionError.TheVariants as refusal
use Rattle.engine_requests.specs.Addresses.{manifest_text, url_read}
use Rattle.engine_requests.specs.Requests.{manifest_types}
use Rattle.engine_answers.specs.Answers.{accepted, header_digest, agreed, fits_reference}
use Rattle.engine_rows.specs.declared.named.NamedAnswer.{NamedAnswer}
use Rattle.engine_rows.specs.declared.named.NamedAnswer.TheVariants as named
use Rattle.engine_rows.specs.Rows.{store, reading_named, named_reading, unread_named, read_named, named_reply, named_after, prepared}
use Rattle.engine_rows.specs.Pulls.{document, digest_by, fetch_manifest_digest}
use Rattle.engine_rows.specs.Answered.{LedTo, FirstAsked, ByHeader, ByDocument, DigestAnswered as Digest}
use Rattle.request_laws.proofs.PreparedRequests.{asks_of, Silent, silent_store, Prepared, prepared_shows}
use Rattle.request_laws.proofs.DocumentAnswers.{led_of, first_asked, accepted_is, digest_ok, names_of, Found, document_shows, url_is}

-- ---- the response whose header names a digest, or none

abbrev Names : Request → List Exchange → NamedAnswer → Type 0
Names request c (named.ByHeader digest got) = LedTo request c got.answer × (header_digest got.answer.headers ≡ Ok (Some digest))
Names request c named.Unnamed = (answer : Answer) × LedTo request c answer × (header_digest answer.headers ≡ Ok None)

unread_where : (request : Request) (limit m after : ℕ) (c : List Exchange) (answer : Answer) (d : Result (Option (List ℕ)) OciDistributionError) → header_digest answer.headers ≡ d → reading_named limit d ≡ Unread → LedTo request c answer → WhenOk (λ m c n x. Names request c x) m (c ++ []) after (unread_named d)
unread_where request limit m after c answer (Ok (Some digest)) is reading led = absurd (cc reading)
unread_where request limit m after c answer (Ok None) is reading led = rw append-nil (answer, led, is)
unread_where request limit m after c answer (Err e) is reading led = tt

read_where : (request : Request) (limit m after : ℕ) (c : List Exchange) (got : Got) (d : Result (Option (List ℕ)) OciDistributionError) → header_digest got.answer.headers ≡ d → (limit_of (reading_named limit d) ≡ None → ⊥) → LedTo request c got.answer → WhenOk (λ m c n x. Names request c x) m (c ++ []) after (read_named got d)
read_where request limit m after c got (Ok (Some digest)) is some led = rw append-nil (led, is)
read_where request limit m after c got (Ok None) is some led = absurd (some refl)
read_where request limit m after c got (Err e) is some led = tt

named_run : (request : Request) (limit : ℕ) (k l : AuthState) (m after o : ℕ) (c d : List Exchange) (last : Request) (reply : Reply) (r : Result NamedAnswer OciDistributionError) → Heard 10 request (named_reading limit) m c after last reply → Runs (named_reply last reply) k after d o l r → WhenOk (λ m c n x. Names request c x) m (c ++ d) o r
unfolding named_reading
named_run request limit k l m after o c d last (Headed head) r h run =
    let b = h.replies.reply_is in
    done_run (λ s d o r. WhenOk (λ m c n x. Names request c x) m (c ++ d) o r) (unread_named (header_digest head.headers)) k l after o d r
    (unread_where request limit m after c (answer_of head b.0) (header_digest head.headers) refl b.2 (led_of h (answer_of head b.0) b.1 h.settles)) run
named_run request limit k l m after o c d last (Answered answer) r h run =
    let b = h.replies.reply_is in
    done_run (λ s d o r. WhenOk (λ m c n x. Names request c x) m (c ++ d) o r) (read_named (record { url = last.url; answer = answer }) (header_digest answer.headers)) k l after o d r
    (read_where request limit m after c (record { url = last.url; answer = answer }) (header_digest answer.headers) refl (λ none. cc (none, b.2)) (led_of h answer b.1 h.settles)) run
named_run request limit k l m after o c d last Failed r h run = done_run (λ s d o r. WhenOk (λ m c n x. Names request c x) m (c ++ d) o r) (Err refusal.TransportFault) k l after o d r tt run
named_run request limit k l m after o c d last TooLong r h run = done_run (λ s d o r. WhenOk (λ m c n x. Names request c x) m (c ++ d) o r) (Err refusal.BodyTooLong) k l after o d r tt run
named_run request limit k l m after o c d last SinkFailed r h run = done_run (λ s d o r. WhenOk (λ m c n x. Names request c x) m (c ++ d) o r) (Err refusal.SinkFault) k l after o d r tt run

named_shows : (request : Request) (limit : ℕ) → EveryRun (WhenOk (λ m c n x. Names request c x)) (named_after 10 request limit)
unfolding named_after
named_shows request limit = EveryRun-follow (WhenOk (λ m c n x. Names request c x)) 10 request (named_reading limit) named_reply (named_run request limit)

-- ---- the digest of a response, or of the document that is requested after it

agreed_is : (digest own : List ℕ) (a b : Option (List ℕ × List ℕ)) (x : List ℕ) → agreed digest own a b ≡ Ok x → x ≡ digest
agreed_is digest own None b x is = absurd (cc is)
agreed_is digest own (Some given) None x is = absurd (cc is)
agreed_is digest own (Some given) (Some found) x is = by_test (bytes_eq given.0 found.0 && not (bytes_eq digest own)) is where
  by_test : (b : Bool) → (if b then Err (digest_refusal.VerificationError own digest) else Ok digest) ≡ Ok x → x ≡ digest
  by_test true is = absurd (cc is)
  by_test false is = cc is

fits_is : (digest : List ℕ) (own : Option (List ℕ)) (x : List ℕ) → fits_reference digest own ≡ Ok x → x ≡ digest
fits_is digest None x is = cc is
fits_is digest (Some own) x is = agreed_is digest own (parts_of digest) (parts_of own) x (digest_ok (agreed digest own (parts_of digest) (parts_of own)) x is)

ok_same : (a b : List ℕ) → ◌≡◌ {A = Result (List ℕ) OciDistributionError} (Ok a) (Ok b) → a ≡ b
ok_same a b is = cc is

-- what comes after a response
abbrev After : Settings → Reference → Parts → NamedAnswer → List Exchange → List ℕ → Type 0
After s image url (named.ByHeader digest got) d x = (d ≡ []) × (got.answer.status ≡ 200) × (x ≡ digest)
After s image url named.Unnamed d x = ByDocument s image url x d

by_document : {s : Settings} {image : Reference} {url : Parts} {c : List Exchange} {found : List ℕ × List ℕ} → Found s image url manifest_types c found → ByDocument s image url found.1 c
by_document {image = image} {found = found} f =
    let v = f.validly in
    record { get = f.get; body = record { status = v.status; header = v.header; header_is = v.header_is; digest = v.validates.answer; names = names_of f.get.answer.body v.header (digest_of image) found.1 v.validates } }

after_shows : (s : Context) (image : Reference) (url : Parts) (x : NamedAnswer) → EveryRun (WhenOk (λ m c n d. After s.settings image url x c d)) (digest_by s image url x)
after_shows s image url (named.ByHeader digest got) = EveryRun-step (WhenOk (λ m c n d. After s.settings image url (named.ByHeader digest got) c d)) (accepted 200 got.url got.answer) (λ answer. Done (fits_reference digest (digest_of image)))
    (λ answer is. EveryRun-last (λ m c n d. After s.settings image url (named.ByHeader digest got) c d) (λ m c n e. Unit {0}) (fits_reference digest (digest_of image)) (λ d fits m. (refl, (accepted_is got.url got.answer answer is).0, fits_is digest (digest_of image) d fits)) (λ e is m. tt))
    (λ e is m. tt)
after_shows s image url named.Unnamed = EveryRun-next (λ m c n found. Found s.settings image url manifest_types c found) (λ m c n d. After s.settings image url named.Unnamed c d) (document s image url manifest_types) (λ found. Done (Ok found.1)) (document_shows s image url manifest_types)
    (λ m n c found f. EveryRun-last (λ start d o x. After s.settings image url named.Unnamed (c ++ d) x) (λ start d o e. Unit {0}) (Ok found.1) (λ x is o. subst (λ (e : List Exchange). ByDocument s.settings image url x e) (sym (append-nil c)) (subst (λ (x : List ℕ). ByDocument s.settings image url x c) (ok_same found.1 x is) (by_document f))) (λ e is o. tt))

-- the request led to a response with this digest
record DigestRead (s : Settings) (image : Reference) (url : Parts) (request : Request) (c : List Exchange) (d : List ℕ) : Type 0 where
  asked : List Exchange
  after : List Exchange
  split : c ≡ asked ++ after
  answer : Answer
  led : LedTo request asked answer
  digest : ByHeader d answer ⊎ ((header_digest answer.headers ≡ Ok None) × ByDocument s image url d after)

read_digest : (s : Settings) (image : Reference) (url : Parts) (request : Request) (x : NamedAnswer) (c d : List Exchange) (digest : List ℕ) → Names request c x → After s image url x d digest → DigestRead s image url request (c ++ d) digest
read_digest s image url request (named.ByHeader given got) c d digest names after = record {
  asked = c;
  after = d;
  split = refl;
  answer = got.answer;
  led = names.0;
  digest = inl (record { status = after.1; header = names.1 ∙ ap (λ (t : List ℕ). Ok (Some t)) (sym after.2) });
}
read_digest s image url request named.Unnamed c d digest names after = record { asked = c; after = d; split = refl; answer = names.0; led = names.1; digest = inr (names.2, after) }

digest_where : (s : Settings) (image : Reference) (url : Parts) (request : Request) (x : NamedAnswer) (c : List Exchange) → Names request c x → (m start n : ℕ) (d : List Exchange) (r : Result (List ℕ) OciDistributionError) → WhenOk (λ m c n t. After s image url x c t) start d n r → WhenOk (λ m c n t. DigestRead s image url request c t) m (c ++ d) n r
digest_where s image url request x c names m start n d (Ok t) after = read_digest s image url request x c d t names after
digest_where s image url request x c names m start n d (Err e) after = tt

read_shows : (s : Context) (image : Reference) (url : Parts) (request : Request) → EveryRun (WhenOk (λ m c n t. DigestRead s.settings image url request c t)) (named_after 10 request s.settings.max_body_bytes >>= λ x. digest_by s image url x)
read_shows s image url request = EveryRun-next (λ m c n x. Names request c x) (λ m c n t. DigestRead s.settings image url request c t) (named_after 10 request s.settings.max_body_bytes) (λ x. digest_by s image url x) (named_shows request s.settings.max_body_bytes)
    (λ m n c x names. EveryRun-more (WhenOk (λ m c n t. After s.settings image url x c t)) (λ start d o r. WhenOk (λ m c n t. DigestRead s.settings image url request c t) m (c ++ d) o r) (digest_by s image url x) (after_shows s image url x) (λ start o d r h. digest_where s.settings image url request x c names m start o d r h))

-- the first HEAD for the address led to one
record HeadRead (s : Settings) (image : Reference) (url : Parts) (c : List Exchange) (d : List ℕ) : Type 0 where
  head : FirstAsked s image Pull Head url (Some manifest_types) c
  digest : ByHeader d head.answer ⊎ ((header_digest head.answer.headers ≡ Ok None) × ByDocument s image url d head.after)

head_read : (s : Settings) (image : Reference) (url : Parts) (c d : List Exchange) (request : Request) (digest : List ℕ) → Prepared s image Pull Head url manifest_types c request → DigestRead s image url request d digest → HeadRead s image url (c ++ d) digest
head_read s image url c d request digest p r = record {
  head = first_asked c r.asked r.after d request r.answer p.step (asks_of s Head url (Some manifest_types) p.token request p.made) r.led r.split;
  digest = r.digest;
}

head_where : (s : Settings) (image : Reference) (url : Parts) (c : List Exchange) (request : Request) → Prepared s image Pull Head url manifest_types c request → (m start n : ℕ) (d : List Exchange) (r : Result (List ℕ) OciDistributionError) → WhenOk (λ m c n t. DigestRead s image url request c t) start d n r → WhenOk (λ m c n t. HeadRead s image url c t) m (c ++ d) n r
head_where s image url c request p m start n d (Ok t) r = head_read s image url c d request t p r
head_where s image url c request p m start n d (Err e) r = tt

head_shows : (s : Context) (image : Reference) (url : Parts) → EveryRun (WhenOk (λ m c n t. HeadRead s.settings image url c t)) (prepared s image Pull Head url manifest_types >>= λ request. named_after 10 request s.settings.max_body_bytes >>= λ x. digest_by s image url x)
head_shows s image url = EveryRun-next (λ m c n request. Prepared s.settings image Pull Head url manifest_types c request) (λ m c n t. HeadRead s.settings image url c t) (prepared s image Pull Head url manifest_types) (λ request. named_after 10 request s.settings.max_body_bytes >>= λ x. digest_by s image url x) (prepared_shows s image Pull Head url manifest_types)
    (λ m n c request p. EveryRun-more (WhenOk (λ m c n t. DigestRead s.settings image url request c t)) (λ start d o r. WhenOk (λ m c n t. HeadRead s.settings image url c t) m (c ++ d) o r) (named_after 10 request s.settings.max_body_bytes >>= λ x. digest_by s image url x) (read_shows s image url request) (λ start o d r h. head_where s.settings image url c request p m start o d r h))

-- ---- the row

abbrev Stored : ℕ → List Exchange → ℕ → Unit {0} → Type 0
Stored m c n u = c ≡ []

stored_shows : (image : Reference) (a : RegistryAuth) → EveryRun (WhenOk Stored) (store image a)
stored_shows image a = EveryRun-more Silent (WhenOk Stored) (store image a) (silent_store image a) by_result where
  by_result : (m n : ℕ) (c : List Exchange) (r : Result (Unit {0}) OciDistributionError) → c ≡ [] → WhenOk Stored m c n r
  by_result m n c (Ok u) h = h
  by_result m n c (Err e) h = tt

answered_where : (s : Settings) (image : Reference) (url : Parts) (c : List Exchange) → url_read (manifest_text s image) ≡ Ok url → c ≡ [] → (m start n : ℕ) (d : List Exchange) (r : Result (List ℕ) OciDistributionError) → WhenOk (λ m c n t. HeadRead s image url c t) start d n r → WhenOk (λ m c n t. Digest s image c t) m (c ++ d) n r
answered_where s image url c is none m start n d (Ok t) h = subst (λ (x : List Exchange). Digest s image (x ++ d) t) (sym none) (record { url = url; address = url_is (manifest_text s image) (request_url (manifest_text s image)) url is; head = h.head; digest = h.digest })
answered_where s image url c is none m start n d (Err e) h = tt

-- the digest is the one that the registry returned
pub digest_shows : (s : Context) (image : Reference) (a : RegistryAuth) → EveryRun (WhenOk (λ m c n t. Digest s.settings image c t)) (fetch_manifest_digest s image a)
unfolding fetch_manifest_digest
digest_shows s image a = EveryRun-next Stored (λ m c n t. Digest s.settings image c t) (store image a) (λ u. Done (url_read (manifest_text s.settings image)) >>= λ url. prepared s image Pull Head url manifest_types >>= λ request. named_after 10 request s.settings.max_body_bytes >>= λ x. digest_by s image url x) (stored_shows image a)
    (λ m n c u none. EveryRun-step (λ start d o r. WhenOk (λ m c n t. Digest s.settings image c t) m (c ++ d) o r) (url_read (manifest_text s.settings image)) (λ url. prepared s image Pull Head url manifest_types >>= λ request. named_after 10 request s.settings.max_body_bytes >>= λ x. digest_by s image url x)
    (λ url is. EveryRun-more (WhenOk (λ m c n t. HeadRead s.settings image url c t)) (λ start d o r. WhenOk (λ m c n t. Digest s.settings image c t) m (c ++ d) o r) (prepared s image Pull Head url manifest_types >>= λ request. named_after 10 request s.settings.max_body_bytes >>= λ x. digest_by s image url x) (head_shows s image url) (λ start o d r h. answered_where s.settings image url c is none m start o d r h))
    (λ e is o. tt))

-- ---- a returned digest stays one after further requests

first_before : {s : Settings} {image : Reference} {op : RegistryOperation} {method : Method} {url : Parts} {types : Option (List ℕ)} {c : List Exchange} (d : List Exchange) → FirstAsked s image op method url types c → FirstAsked s image op method url types (c ++ d)
first_before d first = record {
  before = first.before;
  step = first.step;
  request = first.request;
  asks = first.asks;
  exchanges = first.exchanges;
  answer = first.answer;
  led = first.led;
  after = first.after ++ d;
  split = ap (λ c. c ++ d) first.split ∙ append_assoc (first.before ++ first.exchanges) first.after d;
}

pub answered_before : (s : Settings) (image : Reference) (c d : List Exchange) (digest : List ℕ) → Digest s image c digest → Digest s image (c ++ d) digest
unfolding first_before
answered_before s image c d digest answered = record {
  url = answered.url;
  address = answered.address;
  head = first_before d answered.head;
  digest = elim answered.digest [
    | inl by_header ↦ inl by_header
    | inr other ↦ inr (other.0, record { get = first_before d other.1.get; body = other.1.body })
  ];
}
