-- Why a pull of blobs was refused.
use Rattle.std.proofs.Common.{◌≡◌, ◌≢◌, ◌⊎◌, inl, inr, ℕ, suc, Bool, true, false, List, [], ◌∷◌, ◌++◌, Option, Some, None, Result, Ok, Err, IfErr, bytes_eq, refl, sym, ap, subst, ◌∙◌, append-nil, append_assoc, arith}
use Rattle.std.specs.Prelude.{if◌then◌else◌}
use Rattle.std.specs.List.{Contains}
use Rattle.json_values.specs.Counts.{Increased}
use Rattle.url.specs.Parts.{Parts}
use Rattle.oci_transport.specs.Link.{Link, answer_of}
use Rattle.oci_transport.specs.Urls.{request_url}
use Rattle.oci_transport.specs.Headers.{digest_header, first_of}
use Rattle.oci_transport.specs.declared.message.Request.{Request}
use Rattle.oci_transport.specs.declared.message.Answer.{Answer}
use Rattle.oci_transport.specs.declared.message.AnswerHead.{AnswerHead}
use Rattle.oci_transport.specs.declared.message.Exchange.{Exchange}
use Rattle.oci_transport.specs.declared.message.Method.TheVariants.{Get}
use Rattle.oci_names.specs.declared.reference.Reference.{Reference}
use Rattle.oci_manifests.specs.declared.descriptor.OciDescriptor.{OciDescriptor}
use Rattle.oci_digests.specs.Names.{digest_text}
use Rattle.oci_digests.specs.Checks.{named_algorithm}
use Rattle.oci_digests.specs.Checks.{header_digest as digest_in, and_then}
use Rattle.oci_names.specs.declared.algorithm.Algorithm.{Algorithm}
use Rattle.oci_digests.specs.declared.error.DigestError.{DigestError}
use Rattle.oci_digests.specs.declared.error.DigestError.TheVariants.{VerificationError}
use Rattle.oci_auth.specs.declared.auth_state.AuthState.{AuthState}
use Rattle.oci_auth.specs.declared.token_type.RegistryOperation.TheVariants.{Pull}
use Rattle.oci_auth.specs.declared.token_type.RegistryTokenType.{RegistryTokenType}
use Rattle.oci_protocol.specs.Proto.{Reading, limit_of, Reply, Headed, Answered, Failed, TooLong, SinkFailed, Done, Consult, ◌>>=◌, ◌>>◌}
use Rattle.oci_protocol.specs.Runs.{head_part, Meets, Told, Runs}
use Rattle.oci_protocol.specs.Follow.{Trail}
use Rattle.oci_protocol.specs.EveryRun.{EveryRun, ByResult, Heard}
use Rattle.oci_protocol.proofs.RunFacts.{done_run, EveryRun-done, EveryRun-consult, EveryRun-last, EveryRun-more, EveryRun-each, EveryRun-step}
use Rattle.engine_answers.specs.declared.blobs.Expected.{Expected}
use Rattle.engine_answers.specs.declared.blobs.Plan.{Plan}
use Rattle.engine_answers.specs.declared.blobs.Plan.TheVariants as plan
use Rattle.engine_terms.specs.Contexts.{Context}
use Rattle.engine_terms.specs.Error.{is_memory}
use Rattle.engine_terms.specs.declared.settings.Settings.{Settings}
use Rattle.engine_terms.specs.declared.error.OciDistributionError.{OciDistributionError}
use Rattle.engine_terms.specs.declared.error.OciDistributionError.TheVariants as refusal
use Rattle.engine_terms.specs.declared.error.GenericCause.TheVariants.{HeaderText}
use Rattle.json_values.specs.Refusals.{◌>>◌ as ◌before◌}
use Rattle.engine_requests.specs.Addresses.{registry_text, blob_text, url_read}
use Rattle.engine_requests.specs.Requests.{manifest_types, request_of}
use Rattle.engine_requests.specs.Sources.{described, place_of, places_of, asked_at}
use Rattle.engine_requests.specs.declared.sources.Place.{Place}
use Rattle.engine_requests.specs.declared.sources.Place.TheVariants.{Web, Unfit}
use Rattle.engine_answers.specs.Answers.{is_success, or_digest_error, header_digest}
use Rattle.engine_answers.specs.Blobs.{digest_expected, given_expected, pouring, plan_by, planned, plan_of, compared, given_compared}
use Rattle.engine_rows.specs.Rows.{Row, authorized}
use Rattle.engine_rows.specs.Blobs.{IntoSink, reading_by, blob_reading, unread_by, read_by, blob_reply}
use Rattle.engine_rows.specs.Held.{Entry, pulling}
use Rattle.engine_rows.specs.Causes.{Act, Reads, Sends, UnfitUrl, AsksListed, BlobUrl, BadHeader, LastAnswer, LastAsked, LastTooLong, Claimed, DigestCause, AnswerCause, AskedDigest}
use Rattle.request_laws.proofs.EarlyCauses.{AnyValue, Loose, EarlyCause, Early, request_early, authorized_early}
use Rattle.request_laws.proofs.PreparedRequests.{asks_of}
use Rattle.request_laws.proofs.DigestErrors.{name_cause, name_claimed, differs_claimed, header_cause}
use Rattle.request_laws.proofs.OfferedPlaces.{EachPlace, Unasked, Gives}
use Rattle.request_laws.proofs.DocumentAnswers.{url_is}
use Rattle.request_laws.proofs.DocumentCauses.{answer_cause, cause_later, early_cause, status_cause, heard_answer, heard_failed, heard_long, url_cause}
use Rattle.request_laws.proofs.BlobCauses.{not_expected, OfUrls, each_more, places_are, unfit_as, unfit_is, listed_own}
use Rattle.request_laws.proofs.FaultCounts.{failed_last, fault_last, refusal_both}
use Rattle.request_laws.proofs.KeptTokens.{Keeps, keeps_first}
use Rattle.request_laws.proofs.ShownTokens.{Carries, HeaderCause, Ended}
use Rattle.oci_protocol.proofs.Ends.{Runs-ends, Meets-ends}
use Rattle.call_laws.specs.Causes.{CutCause, BlobsCause}
use Rattle.call_laws.specs.Cut.{size_of, most, cut_at}
use Rattle.call_laws.specs.Blobs.{sent_token, blob_with, going_on, sinks_asked, kept_blob, each_blob, pull_blobs}
use Rattle.call_laws.proofs.CutRuns.{own_reading, cut_at_law}
use Rattle.call_laws.proofs.BlobsConfined.{blobs_sound}

-- ---- what a plan implies about the response

-- a digest with its algorithm, which the response's header names
abbrev GivenShape : Answer → Option Expected → Type 0
GivenShape answer None = Unit {0}
GivenShape answer (Some x) = (header_digest answer.headers ≡ Ok (Some x.text)) × (named_algorithm x.text ≡ Ok x.algorithm)

abbrev PlanShape : List ℕ → Answer → Plan → Type 0
PlanShape digest answer (plan.Refuse e) = DigestCause (AskedDigest digest) answer e
PlanShape digest answer plan.Judge = is_success answer.status ≡ false
PlanShape digest answer (plan.Pour given own) = GivenShape answer given × (own.text ≡ digest) × (named_algorithm own.text ≡ Ok own.algorithm)

-- an expected digest text
expected_ok : (text : List ℕ) (r : Result Algorithm DigestError) (x : Expected) → named_algorithm text ≡ r → and_then r (λ a. Ok (record { text = text; algorithm = a })) ≡ Ok x → (x.text ≡ text) × (named_algorithm x.text ≡ Ok x.algorithm)
expected_ok text (Ok a) x is h = let same : record { text = text; algorithm = a } ≡ x = one h in (sym (ap (λ (x : Expected). x.text) same), subst (λ (x : Expected). named_algorithm x.text ≡ Ok x.algorithm) same is) where
  one : ◌≡◌ {A = Result Expected DigestError} (Ok (record { text = text; algorithm = a })) (Ok x) → record { text = text; algorithm = a } ≡ x
  one h = cc h
expected_ok text (Err e) x is h = absurd (cc h)

expected_err : (text : List ℕ) (r : Result Algorithm DigestError) (e : DigestError) → named_algorithm text ≡ r → ◌≡◌ {A = Result Expected DigestError} (and_then r (λ a. Ok (record { text = text; algorithm = a }))) (Err e) → named_algorithm text ≡ Err e
expected_err text (Ok a) e is h = absurd (cc h)
expected_err text (Err x) e is h = let same : x ≡ e = cc h in is ∙ ap Err same

pour_shape : (digest : List ℕ) (answer : Answer) (good : Bool) (given : Option Expected) (own : Expected) → is_success answer.status ≡ good → GivenShape answer given → digest_expected digest ≡ Ok own → PlanShape digest answer (pouring good given own)
pour_shape digest answer true given own success shape is = let x = expected_ok digest (named_algorithm digest) own refl is in (shape, x.0, x.1)
pour_shape digest answer false given own success shape is = success

own_shape : (digest : List ℕ) (answer : Answer) (given : Option Expected) (r : Result Expected DigestError) → GivenShape answer given → digest_expected digest ≡ r → PlanShape digest answer (planned (and_then r (λ own. Ok (pouring (is_success answer.status) given own))))
own_shape digest answer given (Ok own) shape is = pour_shape digest answer (is_success answer.status) given own refl shape is
own_shape digest answer given (Err e) shape is = not_expected digest answer digest e (inl refl) is

given_shape : (digest : List ℕ) (answer : Answer) (r : Result (Option Expected) DigestError) → ((given : Option Expected) → r ≡ Ok given → GivenShape answer given) → ((e : DigestError) → r ≡ Err e → DigestCause (AskedDigest digest) answer e) → PlanShape digest answer (planned (and_then r (λ given. and_then (digest_expected digest) (λ own. Ok (pouring (is_success answer.status) given own)))))
given_shape digest answer (Ok given) good bad = own_shape digest answer given (digest_expected digest) (good given refl) refl
given_shape digest answer (Err e) good bad = bad e refl

some_given : (answer : Answer) (text : List ℕ) (r : Result Expected DigestError) (given : Option Expected) → header_digest answer.headers ≡ Ok (Some text) → digest_expected text ≡ r → and_then r (λ x. Ok (Some x)) ≡ Ok given → GivenShape answer given
some_given answer text (Ok x) None named is h = absurd (cc h)
some_given answer text (Ok x) (Some y) named is h =
    let two = expected_ok text (named_algorithm text) x refl is in
    let same : x ≡ y = cc h in
    subst (λ (x : Expected). GivenShape answer (Some x)) same (named ∙ ap (λ (t : List ℕ). Ok (Some t)) (sym two.0), two.1)
some_given answer text (Err e) given named is h = absurd (cc h)

some_refused : (digest : List ℕ) (answer : Answer) (text : List ℕ) (r : Result Expected DigestError) (e : DigestError) → header_digest answer.headers ≡ Ok (Some text) → digest_expected text ≡ r → ◌≡◌ {A = Result (Option Expected) DigestError} (and_then r (λ x. Ok (Some x))) (Err e) → DigestCause (AskedDigest digest) answer e
some_refused digest answer text (Ok x) e named is h = absurd (cc h)
some_refused digest answer text (Err x) e named is h = let same : x ≡ e = cc h in not_expected digest answer text e (inr named) (is ∙ ap Err same)

by_given : (digest : List ℕ) (answer : Answer) (header : Option (List ℕ)) → header_digest answer.headers ≡ Ok header → PlanShape digest answer (planned (plan_by (is_success answer.status) digest header))
by_given digest answer None is = own_shape digest answer None (digest_expected digest) tt refl
by_given digest answer (Some text) is = given_shape digest answer (given_expected (Some text)) (λ given h. some_given answer text (digest_expected text) given is refl h) (λ e h. some_refused digest answer text (digest_expected text) e is refl h)

by_header : (digest : List ℕ) (answer : Answer) (r : Result (Option (List ℕ)) DigestError) → digest_in (first_of digest_header answer.headers) ≡ r → PlanShape digest answer (planned (and_then r (plan_by (is_success answer.status) digest)))
by_header digest answer (Ok header) is = by_given digest answer header (ap (λ (r : Result (Option (List ℕ)) DigestError). or_digest_error r) is)
by_header digest answer (Err e) is = header_cause (AskedDigest digest) answer (first_of digest_header answer.headers) e refl is

plan_shape : (digest : List ℕ) (answer : Answer) → PlanShape digest answer (plan_of digest (head_part answer))
unfolding plan_of
plan_shape digest answer = by_header digest answer (digest_in (first_of digest_header answer.headers)) refl

-- ---- a blob's cause

-- with any invalid header value
abbrev LooseCut : (Act → Type 0) → Settings → OciDescriptor → List Exchange → ℕ → OciDistributionError → Type 0
LooseCut T s x c now e = CutCause T AnyValue s x c now e

cut_cause : (T : Act → Type 0) (s : Settings) (x : OciDescriptor) (c : List Exchange) (now : ℕ) (e : OciDistributionError) → Loose T (AnswerCause (AskedDigest x.digest)) s manifest_types c now e → LooseCut T s x c now e
cut_cause T s x c now refusal.SinkFault h = tt
cut_cause T s x c now refusal.BodyTooLong h = inr h
cut_cause T s x c now e h = h

long_later : (T : Act → Type 0) (limit : ℕ) (c : List Exchange) {d : List Exchange} → LastTooLong T d limit → LastTooLong T (c ++ d) limit
long_later T limit c h = record {
  last = h.last;
  asked = record { front = c ++ h.asked.front; redirects = h.asked.redirects; split = ap (λ (e : List Exchange). c ++ e) h.asked.split ∙ sym (append_assoc c h.asked.front (h.asked.redirects ++ h.last ∷ [])); request = h.asked.request; own = h.asked.own; before = h.asked.before; left = h.asked.left; count = h.asked.count; trail = h.asked.trail };
  answer = h.answer;
  answered = h.answered;
  long = h.long;
}

cut_later : (T : Act → Type 0) (s : Settings) (x : OciDescriptor) (now : ℕ) (c d : List Exchange) (e : OciDistributionError) → LooseCut T s x d now e → LooseCut T s x (c ++ d) now e
cut_later T s x now c d refusal.SinkFault h = tt
cut_later T s x now c d refusal.BodyTooLong (inl h) = inl (long_later T (size_of x) c h)
cut_later T s x now c d refusal.BodyTooLong (inr h) = inr (long_later T s.max_body_bytes c h)
cut_later T s x now c d e h = cause_later T T (AnswerCause (AskedDigest x.digest)) (AnswerCause (AskedDigest x.digest)) s manifest_types now c d e (λ text h. h) (λ address answer h. h) h

shown : (T : Act → Type 0) (s : Settings) (x : OciDescriptor) (c : List Exchange) (now : ℕ) (address : List ℕ) (answer : Answer) (e : OciDistributionError) → LastAnswer T c address answer → AnswerCause (AskedDigest x.digest) address answer e → LooseCut T s x c now e
shown T s x c now address answer e last h = cut_cause T s x c now e (answer_cause T (AskedDigest x.digest) s manifest_types now c address answer e last h)

abbrev Any : ℕ → List Exchange → ℕ → List ℕ → Type 0
Any m c n bytes = Unit {0}

abbrev Why : (Act → Type 0) → Settings → OciDescriptor → ℕ → List Exchange → ℕ → OciDistributionError → Type 0
Why T s x m c n e = LooseCut T s x c n e

unread_where : (T : Act → Type 0) (s : Settings) (x : OciDescriptor) (m after : ℕ) (c : List Exchange) (address : List ℕ) (answer : Answer) (p : Plan) → PlanShape x.digest answer p → LastAnswer T c address answer → ByResult Any (Why T s x) m c after (unread_by p)
unread_where T s x m after c address answer (plan.Refuse e) shape last = shown T s x c after address answer (refusal.DigestError e) last shape
unread_where T s x m after c address answer plan.Judge shape last = tt
unread_where T s x m after c address answer (plan.Pour given own) shape last = tt

by_bytes : (digest : List ℕ) (address : List ℕ) (answer : Answer) (x : Expected) (b : Bool) (r : Result (Unit {0}) OciDistributionError) → Claimed (AskedDigest digest) answer x.text → named_algorithm x.text ≡ Ok x.algorithm → bytes_eq x.text (digest_text x.algorithm answer.body) ≡ b → (if b then Ok tt else Err (refusal.DigestError (VerificationError x.text (digest_text x.algorithm answer.body)))) ≡ r → (e : OciDistributionError) → r ≡ Err e → AnswerCause (AskedDigest digest) address answer e
by_bytes digest address answer x true r claimed name test is e bad = absurd (cc (is, bad))
by_bytes digest address answer x false r claimed name test is e bad =
    let same : refusal.DigestError (VerificationError x.text (digest_text x.algorithm answer.body)) ≡ e = cc (is, bad) in
    subst (AnswerCause (AskedDigest digest) address answer) same (differs_claimed (AskedDigest digest) answer x.text x.algorithm claimed name test)

not_compared : (digest : List ℕ) (address : List ℕ) (answer : Answer) (x : Expected) (e : OciDistributionError) → Claimed (AskedDigest digest) answer x.text → named_algorithm x.text ≡ Ok x.algorithm → compared x answer.body ≡ Err e → AnswerCause (AskedDigest digest) address answer e
not_compared digest address answer x e claimed name is = by_bytes digest address answer x (bytes_eq x.text (digest_text x.algorithm answer.body)) (compared x answer.body) claimed name refl refl e is

given_refused : (digest : List ℕ) (address : List ℕ) (answer : Answer) (given : Option Expected) (e : OciDistributionError) → GivenShape answer given → given_compared given answer.body ≡ Err e → AnswerCause (AskedDigest digest) address answer e
given_refused digest address answer None e shape is = absurd (cc is)
given_refused digest address answer (Some x) e shape is = not_compared digest address answer x e (inr shape.0) shape.1 is

own_refused : (digest : List ℕ) (address : List ℕ) (answer : Answer) (own : Expected) (e : OciDistributionError) → own.text ≡ digest → named_algorithm own.text ≡ Ok own.algorithm → compared own answer.body ≡ Err e → AnswerCause (AskedDigest digest) address answer e
own_refused digest address answer own e same name is = not_compared digest address answer own e (inl same) name is

poured : (T : Act → Type 0) (s : Settings) (x : OciDescriptor) (m after : ℕ) (c : List Exchange) (address : List ℕ) (answer : Answer) (first second : Result (Unit {0}) OciDistributionError) → ((e : OciDistributionError) → first ≡ Err e → AnswerCause (AskedDigest x.digest) address answer e) → ((e : OciDistributionError) → second ≡ Err e → AnswerCause (AskedDigest x.digest) address answer e) → LastAnswer T c address answer → ByResult Any (Why T s x) m c after ((first before second) before Ok answer.body)
poured T s x m after c address answer (Err e) second a b last = shown T s x c after address answer e last (a e refl)
poured T s x m after c address answer (Ok u) (Err e) a b last = shown T s x c after address answer e last (b e refl)
poured T s x m after c address answer (Ok u) (Ok v) a b last = tt

not_200 : (status : ℕ) → is_success status ≡ false → status ≢ 200
not_200 status is same = cc (sym is ∙ ap is_success same)

read_where : (T : Act → Type 0) (s : Settings) (x : OciDescriptor) (m after : ℕ) (c : List Exchange) (address : List ℕ) (answer : Answer) (p : Plan) → PlanShape x.digest answer p → LastAnswer T c address answer → ByResult Any (Why T s x) m c after (read_by address answer p)
read_where T s x m after c address answer (plan.Refuse e) shape last = shown T s x c after address answer (refusal.DigestError e) last shape
read_where T s x m after c address answer plan.Judge shape last = shown T s x c after address answer _ last (status_cause (AskedDigest x.digest) address answer (not_200 answer.status shape))
read_where T s x m after c address answer (plan.Pour given own) shape last = poured T s x m after c address answer (given_compared given answer.body) (compared own answer.body) (λ e is. given_refused x.digest address answer given e shape.0 is) (λ e is. own_refused x.digest address answer own e shape.1 shape.2 is) last

-- the limit of a body that is read is the blob's size or that of the settings
limit_is : (s : Settings) (size n : ℕ) (b : Bool) (p : Plan) → limit_of (reading_by IntoSink (if b then size else s.max_body_bytes) p) ≡ Some n → (size ≡ n) ⊎ (s.max_body_bytes ≡ n)
limit_is s size n b (plan.Refuse e) is = absurd (cc is)
limit_is s size n true plan.Judge is = inl (cc is)
limit_is s size n false plan.Judge is = inr (cc is)
limit_is s size n true (plan.Pour given own) is = inl (cc is)
limit_is s size n false (plan.Pour given own) is = inr (cc is)

long_where : (T : Act → Type 0) (s : Settings) (x : OciDescriptor) (c : List Exchange) (after : ℕ) (limit : ℕ) → (size_of x ≡ limit) ⊎ (s.max_body_bytes ≡ limit) → LastTooLong T c limit → LooseCut T s x c after refusal.BodyTooLong
long_where T s x c after limit (inl is) h = inl (rw is h)
long_where T s x c after limit (inr is) h = inr (rw is h)

asked_last : (T : Act → Type 0) {request : Request} {reading : AnswerHead → Reading} {m : ℕ} {c : List Exchange} {after : ℕ} {last : Request} {reply : Reply} (h : Heard 10 request reading m c after last reply) → T (Sends request) → LastAsked T c h.exchange
asked_last T {request} {m = m} h own = record {
  front = [];
  redirects = h.redirects;
  split = h.split;
  request = request;
  own = own;
  before = m;
  left = h.left;
  count = h.before;
  trail = subst (λ r. Trail 10 request m h.redirects h.left r h.before) (sym h.replies.request_is) h.trail;
}

long_at : (T : Act → Type 0) (request : Request) (m after : ℕ) (c : List Exchange) (last : Request) (reading : AnswerHead → Reading) (h : Heard 10 request reading m c after last TooLong) → T (Sends request) → LastTooLong T c h.replies.reply_is.1
long_at T request m after c last reading h own = record { last = h.exchange; asked = asked_last T h own; answer = h.replies.reply_is.0; answered = h.replies.reply_is.2; long = h.replies.reply_is.4 }

blob_run : (T : Act → Type 0) (s : Settings) (x : OciDescriptor) (request : Request) → T (Sends request) → (k l : AuthState) (m after o : ℕ) (c d : List Exchange) (last : Request) (reply : Reply) (r : Result (List ℕ) OciDistributionError) → Heard 10 request (own_reading s (size_of x) x.digest) m c after last reply → Runs (blob_reply x.digest last reply) k after d o l r → ByResult Any (Why T s x) m (c ++ d) o r
unfolding blob_reading
blob_run T s x request own k l m after o c d last (Headed head) r h run =
    let b = h.replies.reply_is in
    done_run (λ start d o r. ByResult Any (Why T s x) m (c ++ d) o r) (unread_by (plan_of x.digest head)) k l after o d r
    (subst (λ y. ByResult Any (Why T s x) m y after (unread_by (plan_of x.digest head))) (sym (append-nil c)) (unread_where T s x m after c last.url (answer_of head b.0) (plan_of x.digest head) (plan_shape x.digest (answer_of head b.0)) (heard_answer T h own (answer_of head b.0) b.1 h.settles))) run
blob_run T s x request own k l m after o c d last (Answered answer) r h run = done_run (λ start d o r. ByResult Any (Why T s x) m (c ++ d) o r) (read_by last.url answer (plan_of x.digest (head_part answer))) k l after o d r
    (subst (λ y. ByResult Any (Why T s x) m y after (read_by last.url answer (plan_of x.digest (head_part answer)))) (sym (append-nil c)) (read_where T s x m after c last.url answer (plan_of x.digest (head_part answer)) (plan_shape x.digest answer) (heard_answer T h own answer h.replies.reply_is.1 h.settles))) run
blob_run T s x request own k l m after o c d last Failed r h run = done_run (λ start d o r. ByResult Any (Why T s x) m (c ++ d) o r) (Err refusal.TransportFault) k l after o d r (rw append-nil (heard_failed T h own)) run
blob_run T s x request own k l m after o c d last TooLong r h run = done_run (λ start d o r. ByResult Any (Why T s x) m (c ++ d) o r) (Err refusal.BodyTooLong) k l after o d r (rw append-nil (long_where T s x c after h.replies.reply_is.1 (limit_is s (size_of x) h.replies.reply_is.1 (is_success (head_part h.replies.reply_is.0).status) (plan_of x.digest (head_part h.replies.reply_is.0)) h.replies.reply_is.3) (long_at T request m after c last (own_reading s (size_of x) x.digest) h own))) run
blob_run T s x request own k l m after o c d last SinkFailed r h run = done_run (λ start d o r. ByResult Any (Why T s x) m (c ++ d) o r) (Err refusal.SinkFault) k l after o d r tt run

later_where : (T : Act → Type 0) (s : Settings) (x : OciDescriptor) (m start o : ℕ) (c d : List Exchange) (r : Result (List ℕ) OciDistributionError) → ByResult Any (Why T s x) start d o r → ByResult Any (Why T s x) m (c ++ d) o r
later_where T s x m start o c d (Ok bytes) h = tt
later_where T s x m start o c d (Err e) h = cut_later T s x o c d e h

-- ---- the places of a descriptor

web_refused : (T : Act → Type 0) (s : Settings) (x : OciDescriptor) (url : Parts) (r : Result Request OciDistributionError) → Early T r → (e : OciDistributionError) → r ≡ Err e → (m : ℕ) → LooseCut T s x [] m e
web_refused T s x url (Ok request) early e is m = absurd (cc is)
web_refused T s x url (Err y) early e is m = let same : y ≡ e = cc is in cut_cause T s x [] m e (early_cause T (AnswerCause (AskedDigest x.digest)) s manifest_types m [] e (subst (λ (y : OciDistributionError). EarlyCause T y) same early))

place_refused : (T : Act → Type 0) (s : Settings) (x : OciDescriptor) (urls : List (List ℕ)) → ((text : List ℕ) → UnfitUrl urls text → T (Reads text)) → (p : Place) → OfUrls urls p → Unasked (ByResult Any (Why T s x)) s p
unfolding asked_at
place_refused T s x urls listed (Web url) has e is m = web_refused T s x url (request_of s Get url (Some manifest_types) None) (request_early T s Get url manifest_types None) e is m
place_refused T s x urls listed (Unfit text) has e is m =
    let unfit = unfit_is has.0 text (place_of has.0) (unfit_as has.0) has.2 in
    let same : refusal.UrlParseError text ≡ e = cc is in
    let here : UnfitUrl urls text = (subst (Contains urls) unfit.0 has.1, subst (λ (t : List ℕ). place_of t ≡ Some (Unfit text)) unfit.0 has.2) in
    subst (λ (y : OciDistributionError). LooseCut T s x [] m y) same (subst (λ (t : List ℕ). request_url t ≡ None) unfit.0 unfit.1, listed text here)

cut_causes : (T : Act → Type 0) (s : Settings) (x : OciDescriptor) → ((text : List ℕ) → UnfitUrl (described x).urls text → T (Reads text)) → ((request : Request) → AsksListed s (described x).urls request → T (Sends request)) → (request : Request) → T (Sends request) → EveryRun (ByResult Any (Why T s x)) (cut_at s (size_of x) x.digest (places_of (described x).urls) request)
cut_causes T s x listed others request own = cut_at_law (ByResult Any (Why T s x)) (λ request. T (Sends request)) s (size_of x) x.digest (λ request own. blob_run T s x request own) (λ m start n c d r h. later_where T s x m start n c d r h) (places_of (described x).urls)
    (each_more (OfUrls (described x).urls) (Gives (λ request. T (Sends request)) s) (λ p has request is. others request (listed_own s (described x).urls p request has is)) (places_of (described x).urls) (places_are (described x).urls))
    (each_more (OfUrls (described x).urls) (Unasked (ByResult Any (Why T s x)) s) (place_refused T s x (described x).urls listed) (places_of (described x).urls) (places_are (described x).urls)) request own

-- ---- the row

module _ (s : Settings) (image : Reference) (registry : Parts) (token : Option RegistryTokenType) where
  abbrev Own : OciDescriptor → Act → Type 0
  Own x = BlobUrl s image (described x)

  with_causes : (x : OciDescriptor) → EveryRun (ByResult Any (Why (Own x) s x)) (blob_with s image registry token x)
  unfolding blob_with
  with_causes x = EveryRun-step (ByResult Any (Why (Own x) s x)) (url_read (blob_text s image x.digest)) (λ url. Done (request_of s Get url (Some manifest_types) (sent_token registry token url)) >>= λ request. cut_at s (size_of x) x.digest (places_of (described x).urls) request)
      (λ url url_ok. EveryRun-step (ByResult Any (Why (Own x) s x)) (request_of s Get url (Some manifest_types) (sent_token registry token url)) (λ request. cut_at s (size_of x) x.digest (places_of (described x).urls) request)
      (λ request is. cut_causes (Own x) s x (λ text h. inr (inr h)) (λ request h. inr h) request (inl (url, url_is (blob_text s image x.digest) (request_url (blob_text s image x.digest)) url url_ok, (Get, manifest_types, asks_of s Get url (Some manifest_types) (sent_token registry token url) request is))))
      (λ e is m. web_refused (Own x) s x url (request_of s Get url (Some manifest_types) (sent_token registry token url)) (request_early (Own x) s Get url manifest_types (sent_token registry token url)) e is m))
      (λ e is m. cut_cause (Own x) s x [] m e (url_cause (Own x) (AnswerCause (AskedDigest x.digest)) s manifest_types (blob_text s image x.digest) m [] e (inr (inl refl)) is))

  -- of one of these blobs
  abbrev LooseBlobs : List OciDescriptor → List Exchange → ℕ → OciDistributionError → Type 0
  LooseBlobs xs c now e = BlobsCause AnyValue s image xs c now e

  abbrev WhyBlobs : List OciDescriptor → ℕ → List Exchange → ℕ → OciDistributionError → Type 0
  WhyBlobs xs m c n e = LooseBlobs xs c n e

  abbrev AnyBlobs : ℕ → List Exchange → ℕ → List (List ℕ) → Type 0
  AnyBlobs m c n blobs = Unit {0}

  asked_causes : (x : OciDescriptor) → EveryRun (ByResult (λ m c n u. Unit {0}) (Why (Own x) s x)) sinks_asked
  unfolding sinks_asked
  asked_causes x = EveryRun-consult (ByResult (λ m c n u. Unit {0}) (Why (Own x) s x)) (λ said. Done (going_on said)) by_said where
    by_said : (said : Option (List ℕ)) → EveryRun {K = AuthState} {A = Result (Unit {0}) OciDistributionError} (ByResult (λ m c n u. Unit {0}) (Why (Own x) s x)) (Done (going_on said))
    by_said None = EveryRun-done (ByResult (λ m c n u. Unit {0}) (Why (Own x) s x)) (going_on None) (λ m. tt)
    by_said (Some bytes) = EveryRun-done (ByResult (λ m c n u. Unit {0}) (Why (Own x) s x)) (going_on (Some bytes)) (λ m. tt)

  bytes_later : (x : OciDescriptor) (m start o : ℕ) (c d : List Exchange) (r : Result (List ℕ) OciDistributionError) → ByResult Any (Why (Own x) s x) start d o r → ByResult Any (Why (Own x) s x) m (c ++ d) o r
  bytes_later x m start o c d r h = later_where (Own x) s x m start o c d r h

  kept_causes : (x : OciDescriptor) → EveryRun (ByResult Any (Why (Own x) s x)) (kept_blob s image registry token x)
  unfolding kept_blob
  kept_causes x = EveryRun-each (λ m c n u. Unit {0}) Any (Why (Own x) s x) sinks_asked (λ u. blob_with s image registry token x >>= (λ bytes. sinks_asked >> Done (Ok bytes))) (asked_causes x)
      (λ m n c u h. EveryRun-more (ByResult Any (Why (Own x) s x)) (λ start d o r. ByResult Any (Why (Own x) s x) m (c ++ d) o r) (blob_with s image registry token x >>= (λ bytes. sinks_asked >> Done (Ok bytes)))
      (EveryRun-each Any Any (Why (Own x) s x) (blob_with s image registry token x) (λ bytes. sinks_asked >> Done (Ok bytes)) (with_causes x)
      (λ m n c bytes h. EveryRun-more (ByResult Any (Why (Own x) s x)) (λ start d o r. ByResult Any (Why (Own x) s x) m (c ++ d) o r) (sinks_asked >> Done (Ok bytes))
      (EveryRun-each (λ m c n u. Unit {0}) Any (Why (Own x) s x) sinks_asked (λ u. Done (Ok bytes)) (asked_causes x) (λ m n c u h. EveryRun-done (λ start d o r. ByResult Any (Why (Own x) s x) m (c ++ d) o r) (Ok bytes) (λ start. tt)))
      (λ start o d r h. bytes_later x m start o c d r h)))
      (λ start o d r h. bytes_later x m start o c d r h))

  contains_first : (x : OciDescriptor) (xs : List OciDescriptor) → Contains (x ∷ xs) x
  contains_first x xs = (0, omega arith, refl)

  contains_rest : (x y : OciDescriptor) (xs : List OciDescriptor) → Contains xs y → Contains (x ∷ xs) y
  contains_rest x y xs h = (suc h.0, omega (arith, h.1), h.2)

  first_where : (x : OciDescriptor) (xs : List OciDescriptor) (m n : ℕ) (c : List Exchange) (r : Result (List ℕ) OciDistributionError) → ByResult Any (Why (Own x) s x) m c n r → ByResult Any (WhyBlobs (x ∷ xs)) m c n r
  first_where x xs m n c (Ok bytes) h = tt
  first_where x xs m n c (Err e) h = record { x = x; among = contains_first x xs; cause = h }

  rest_where : (x : OciDescriptor) (xs : List OciDescriptor) (m start o : ℕ) (c d : List Exchange) (r : Result (List (List ℕ)) OciDistributionError) → ByResult AnyBlobs (WhyBlobs xs) start d o r → ByResult AnyBlobs (WhyBlobs (x ∷ xs)) m (c ++ d) o r
  rest_where x xs m start o c d (Ok blobs) h = tt
  rest_where x xs m start o c d (Err e) h = record { x = h.x; among = contains_rest x h.x xs h.among; cause = cut_later (Own h.x) s h.x o c d e h.cause }

  each_causes : (xs : List OciDescriptor) (blobs : List (List ℕ)) → EveryRun (ByResult AnyBlobs (WhyBlobs xs)) (each_blob s image registry token xs blobs)
  unfolding each_blob
  each_causes [] blobs = EveryRun-done (ByResult AnyBlobs (WhyBlobs [])) (Ok blobs) (λ m. tt)
  each_causes (x ∷ xs) blobs = EveryRun-each Any AnyBlobs (WhyBlobs (x ∷ xs)) (kept_blob s image registry token x) (λ bytes. each_blob s image registry token xs (blobs ++ bytes ∷ []))
      (EveryRun-more (ByResult Any (Why (Own x) s x)) (ByResult Any (WhyBlobs (x ∷ xs))) (kept_blob s image registry token x) (kept_causes x) (first_where x xs))
      (λ m n c bytes h. EveryRun-more (ByResult AnyBlobs (WhyBlobs xs)) (λ start d o r. ByResult AnyBlobs (WhyBlobs (x ∷ xs)) m (c ++ d) o r) (each_blob s image registry token xs (blobs ++ bytes ∷ [])) (each_causes xs (blobs ++ bytes ∷ [])) (λ start o d r h. rest_where x xs m start o c d r h))

-- ---- the call

module _ (s : Context) (image : Reference) where
  abbrev Loosely : List OciDescriptor → ℕ → List Exchange → ℕ → OciDistributionError → Type 0
  Loosely xs m c n e = BlobsCause AnyValue s.settings image xs c n e

  abbrev AnyAll : ℕ → List Exchange → ℕ → List (List ℕ) → Type 0
  AnyAll m c n blobs = Unit {0}

  -- before the first blob
  early_first : (x : OciDescriptor) (xs : List OciDescriptor) (m n : ℕ) (c : List Exchange) (e : OciDistributionError) → EarlyCause (BlobUrl s.settings image (described x)) e → Loosely (x ∷ xs) m c n e
  early_first x xs m n c e h = record { x = x; among = (0, omega arith, refl); cause = cut_cause (BlobUrl s.settings image (described x)) s.settings x c n e (early_cause (BlobUrl s.settings image (described x)) (AnswerCause (AskedDigest x.digest)) s.settings manifest_types n c e h) }

  token_where : (x : OciDescriptor) (xs : List OciDescriptor) (m n : ℕ) (c : List Exchange) (r : Result (Option RegistryTokenType) OciDistributionError) → Early (BlobUrl s.settings image (described x)) r → ByResult (λ m c n token. Unit {0}) (Loosely (x ∷ xs)) m c n r
  token_where x xs m n c (Ok token) h = tt
  token_where x xs m n c (Err e) h = early_first x xs m n c e h

  later_all : (xs : List OciDescriptor) (m start o : ℕ) (c d : List Exchange) (r : Result (List (List ℕ)) OciDistributionError) → ByResult AnyAll (Loosely xs) start d o r → ByResult AnyAll (Loosely xs) m (c ++ d) o r
  later_all xs m start o c d (Ok blobs) h = tt
  later_all xs m start o c d (Err e) h = record { x = h.x; among = h.among; cause = cut_later (BlobUrl s.settings image (described h.x)) s.settings h.x o c d e h.cause }

  blobs_causes : (xs : List OciDescriptor) → EveryRun (ByResult AnyAll (Loosely xs)) (pull_blobs s image xs)
  unfolding pull_blobs
  blobs_causes [] = EveryRun-done (ByResult AnyAll (Loosely [])) (Ok []) (λ m. tt)
  blobs_causes (x ∷ xs) = EveryRun-step (ByResult AnyAll (Loosely (x ∷ xs))) (url_read (registry_text s.settings image)) (λ registry. authorized s image Pull registry >>= (λ token. each_blob s.settings image registry token (x ∷ xs) []))
      (λ registry is. EveryRun-each (λ m c n token. Unit {0}) AnyAll (Loosely (x ∷ xs)) (authorized s image Pull registry) (λ token. each_blob s.settings image registry token (x ∷ xs) [])
      (record { shows = λ k l m n c r run. token_where x xs m n c r (Runs-ends (Early (BlobUrl s.settings image (described x))) (authorized s image Pull registry) k l m n c r (authorized_early (BlobUrl s.settings image (described x)) s manifest_types image Pull registry (inl refl)) run) })
      (λ m n c token h. EveryRun-more (ByResult AnyAll (Loosely (x ∷ xs))) (λ start d o r. ByResult AnyAll (Loosely (x ∷ xs)) m (c ++ d) o r) (each_blob s.settings image registry token (x ∷ xs) []) (each_causes s.settings image registry token (x ∷ xs) []) (λ start o d r h. later_all (x ∷ xs) m start o c d r h)))
      (λ e is m. record { x = x; among = (0, omega arith, refl); cause = cut_cause (BlobUrl s.settings image (described x)) s.settings x [] m e (url_cause (BlobUrl s.settings image (described x)) (AnswerCause (AskedDigest x.digest)) s.settings manifest_types (registry_text s.settings image) m [] e (inl refl) is) })

-- with the header value that is not valid
tight_cut : (T : Act → Type 0) (y : Entry) (s : Settings) (x : OciDescriptor) (now : ℕ) (c : List Exchange) (e : OciDistributionError) → CutCause T AnyValue s x c now e → HeaderCause y s manifest_types c e → CutCause T (BadHeader y s manifest_types) s x c now e
tight_cut T y s x now c (refusal.GenericError HeaderText) h bad = bad
tight_cut T y s x now c _ h bad = h

cut_free : (T : Act → Type 0) (Bad : List Exchange → Type 0) (s : Settings) (x : OciDescriptor) (now : ℕ) (c : List Exchange) (e : OciDistributionError) → is_memory e ≡ true → CutCause T Bad s x c now e
cut_free T Bad s x now c refusal.WantOfMemory is = tt
cut_free T Bad s x now c _ is = absurd (cc is)

pub blobs_reason : (s : Context) (image : Reference) (x : OciDescriptor) (xs : List OciDescriptor) {old new : Link} {k l : AuthState} {r : Result (List (List ℕ)) OciDistributionError} → Meets is_memory (pull_blobs s image (x ∷ xs)) old new k l r → IfErr r (λ e. Told (λ c. BlobsCause (BadHeader (pulling k s image None) s.settings manifest_types) s.settings image (x ∷ xs) c new.faults e) old new)
blobs_reason s image x xs {k = k} met =
    let y = pulling k s image None in
    refusal_both (Carries y s.settings) (λ m c n blobs. Unit {0}) (Loosely s image (x ∷ xs)) (Keeps y) (Ended y s.settings manifest_types) (λ c n e. BlobsCause (BadHeader y s.settings manifest_types) s.settings image (x ∷ xs) c n e) (pull_blobs s image (x ∷ xs))
    (λ n c e is. record { x = x; among = (0, omega arith, refl); cause = cut_free (BlobUrl s.settings image (described x)) (BadHeader y s.settings manifest_types) s.settings x n c e is }) (λ m n c e h bad. record { x = h.x; among = h.among; cause = tight_cut (BlobUrl s.settings image (described h.x)) y s.settings h.x n c e h.cause bad }) (blobs_causes s image (x ∷ xs)) (blobs_sound s image (x ∷ xs) k k [] (keeps_first y)) met

pub blobs_fault : (s : Context) (image : Reference) (xs : List OciDescriptor) {old new : Link} {k l : AuthState} {r : Result (List (List ℕ)) OciDistributionError} → Meets is_memory (pull_blobs s image xs) old new k l r → r ≡ Err refusal.TransportFault → Increased old.faults new.faults
blobs_fault s image xs met is = fault_last (λ m c n blobs. Unit {0}) (Loosely s image xs) (pull_blobs s image xs) refusal.TransportFault refl (λ m n c h. failed_last h.cause) (blobs_causes s image xs) (rw is at met)

-- the token step is not refused for a fault of a sink
pub token_never : (s : Context) (image : Reference) (registry : Parts) {old new : Link} {k l : AuthState} (e : OciDistributionError) → Meets is_memory (authorized s image Pull registry) old new k l (Err e) → e ≡ refusal.SinkFault → ⊥
token_never s image registry {old = old} {new = new} {k = k} {l = l} e met is = never (rw is at met) where
  never : Meets {A = Option RegistryTokenType} is_memory (authorized s image Pull registry) old new k l (Err refusal.SinkFault) → ⊥
  never met = Meets-ends (λ (r : Result (Option RegistryTokenType) OciDistributionError). Early (λ (act : Act). Unit {0}) r) (authorized_early (λ (act : Act). Unit {0}) s manifest_types image Pull registry tt) met
