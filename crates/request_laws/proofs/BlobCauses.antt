-- Why the call for a blob was refused.
use Rattle.std.proofs.Common.{◌≡◌, ◌≢◌, inl, inr, ℕ, suc, Bool, true, false, List, [], ◌∷◌, ◌++◌, Option, Some, None, Result, Ok, Err, codes, bytes_eq, refl, sym, ap, subst, ◌∙◌, append-nil, arith}
use Rattle.std.specs.Prelude.{if◌then◌else◌, ◌&&◌, ◌||◌}
use Rattle.std.specs.List.{Contains}
use Rattle.url.specs.Input.{is_empty}
use Rattle.url.specs.Parser.{Parsed, parse_url}
use Rattle.url.specs.Parts.{Parts}
use Rattle.oci_transport.specs.Urls.{request_url, readable}
use Rattle.oci_transport.specs.Link.{answer_of}
use Rattle.oci_transport.specs.Headers.{digest_header, first_of}
use Rattle.oci_transport.specs.declared.message.Request.{Request}
use Rattle.oci_transport.specs.declared.message.Answer.{Answer}
use Rattle.oci_transport.specs.declared.message.Exchange.{Exchange}
use Rattle.oci_transport.specs.declared.message.Method.TheVariants.{Get}
use Rattle.oci_names.specs.declared.reference.Reference.{Reference}
use Rattle.oci_digests.specs.Names.{digest_text}
use Rattle.oci_digests.specs.Checks.{named_algorithm}
use Rattle.oci_digests.specs.Checks.{header_digest as digest_in, and_then}
use Rattle.oci_names.specs.declared.algorithm.Algorithm.{Algorithm}
use Rattle.oci_digests.specs.declared.error.DigestError.{DigestError}
use Rattle.oci_digests.specs.declared.error.DigestError.TheVariants.{VerificationError}
use Rattle.oci_auth.specs.declared.auth_state.AuthState.{AuthState}
use Rattle.oci_auth.specs.declared.token_type.RegistryOperation.TheVariants.{Pull}
use Rattle.oci_protocol.specs.Proto.{Piped, limit_of, Reply, Headed, Answered, Failed, TooLong, SinkFailed, ◌>>=◌}
use Rattle.oci_protocol.specs.Runs.{head_part, Runs}
use Rattle.oci_protocol.specs.EveryRun.{EveryRun, ByResult, Heard}
use Rattle.oci_protocol.proofs.RunFacts.{done_run, EveryRun-more, EveryRun-each, EveryRun-step}
use Rattle.engine_answers.specs.declared.blobs.Expected.{Expected}
use Rattle.engine_answers.specs.declared.blobs.Plan.{Plan}
use Rattle.engine_answers.specs.declared.blobs.Plan.TheVariants as plan
use Rattle.engine_terms.specs.Contexts.{Context}
use Rattle.engine_terms.specs.declared.settings.Settings.{Settings}
use Rattle.engine_terms.specs.declared.error.OciDistributionError.{OciDistributionError}
use Rattle.engine_terms.specs.declared.error.OciDistributionError.TheVariants as refusal
use Rattle.json_values.specs.Refusals.{◌>>◌ as ◌before◌}
use Rattle.engine_requests.specs.Addresses.{blob_text, url_read}
use Rattle.engine_requests.specs.Requests.{manifest_types, request_of}
use Rattle.engine_requests.specs.Sources.{Layer, taken_as, place_of, with_place, places_of, asked_at}
use Rattle.engine_requests.specs.declared.sources.Place.{Place}
use Rattle.engine_requests.specs.declared.sources.Place.TheVariants.{Web, Unfit}
use Rattle.engine_answers.specs.Answers.{is_success, or_digest_error, header_digest}
use Rattle.engine_answers.specs.Blobs.{digest_expected, given_expected, pouring, plan_by, planned, plan_of, compared, given_compared}
use Rattle.engine_rows.specs.Rows.{prepared}
use Rattle.engine_rows.specs.Blobs.{Destination, IntoSink, IntoMemory, reading_by, blob_reading, unread_by, read_by, blob_reply}
use Rattle.engine_rows.specs.Offers.{tried}
use Rattle.engine_rows.specs.Pulls.{blob_to}
use Rattle.engine_rows.specs.Causes.{Act, Reads, Sends, UnfitUrl, AsksListed, BlobUrl, SinkMayFail, LastAnswer, Claimed, DigestCause, AnswerCause, AskedDigest}
use Rattle.request_laws.proofs.EarlyCauses.{Loose, LooseBlob}
use Rattle.request_laws.proofs.PreparedRequests.{asks_of, Prepared}
use Rattle.request_laws.proofs.DigestErrors.{name_cause, name_claimed, differs_claimed, header_cause}
use Rattle.request_laws.proofs.EarlyCauses.{EarlyCause, Early, request_early, prepared_causes}
use Rattle.request_laws.proofs.OfferedPlaces.{EachPlace, Unasked, Gives, tried_law}
use Rattle.request_laws.proofs.DocumentAnswers.{url_is}
use Rattle.request_laws.proofs.DocumentCauses.{asks_at, answer_cause, cause_later, early_cause, status_cause, heard_answer, heard_failed, heard_long, url_cause}

-- ---- what a plan implies about the response

-- a digest with its algorithm, which the response's header names
abbrev GivenShape : Answer → Option Expected → Type 0
GivenShape answer None = Unit {0}
GivenShape answer (Some x) = (header_digest answer.headers ≡ Ok (Some x.text)) × (named_algorithm x.text ≡ Ok x.algorithm)

abbrev PlanShape : List ℕ → Answer → Plan → Type 0
PlanShape digest answer (plan.Refuse e) = DigestCause (AskedDigest digest) answer e
PlanShape digest answer plan.Judge = is_success answer.status ≡ false
PlanShape digest answer (plan.Pour given own) = GivenShape answer given × (own.text ≡ digest) × (named_algorithm own.text ≡ Ok own.algorithm)

-- an expected digest text
expected_ok : (text : List ℕ) (r : Result Algorithm DigestError) (x : Expected) → named_algorithm text ≡ r → and_then r (λ a. Ok (record { text = text; algorithm = a })) ≡ Ok x → (x.text ≡ text) × (named_algorithm x.text ≡ Ok x.algorithm)
expected_ok text (Ok a) x is h = let same : record { text = text; algorithm = a } ≡ x = one h in (sym (ap (λ (x : Expected). x.text) same), subst (λ (x : Expected). named_algorithm x.text ≡ Ok x.algorithm) same is) where
  one : ◌≡◌ {A = Result Expected DigestError} (Ok (record { text = text; algorithm = a })) (Ok x) → record { text = text; algorithm = a } ≡ x
  one h = cc h
expected_ok text (Err e) x is h = absurd (cc h)

expected_err : (text : List ℕ) (r : Result Algorithm DigestError) (e : DigestError) → named_algorithm text ≡ r → ◌≡◌ {A = Result Expected DigestError} (and_then r (λ a. Ok (record { text = text; algorithm = a }))) (Err e) → named_algorithm text ≡ Err e
expected_err text (Ok a) e is h = absurd (cc h)
expected_err text (Err x) e is h = let same : x ≡ e = cc h in is ∙ ap Err same

-- a claimed text is not expected
pub not_expected : (digest : List ℕ) (answer : Answer) (text : List ℕ) (e : DigestError) → Claimed (AskedDigest digest) answer text → digest_expected text ≡ Err e → DigestCause (AskedDigest digest) answer e
not_expected digest answer text e claimed is = name_claimed (AskedDigest digest) answer text e claimed (name_cause text e (expected_err text (named_algorithm text) e refl is))

pour_shape : (digest : List ℕ) (answer : Answer) (good : Bool) (given : Option Expected) (own : Expected) → is_success answer.status ≡ good → GivenShape answer given → digest_expected digest ≡ Ok own → PlanShape digest answer (pouring good given own)
pour_shape digest answer true given own success shape is = let x = expected_ok digest (named_algorithm digest) own refl is in (shape, x.0, x.1)
pour_shape digest answer false given own success shape is = success

own_shape : (digest : List ℕ) (answer : Answer) (given : Option Expected) (r : Result Expected DigestError) → GivenShape answer given → digest_expected digest ≡ r → PlanShape digest answer (planned (and_then r (λ own. Ok (pouring (is_success answer.status) given own))))
own_shape digest answer given (Ok own) shape is = pour_shape digest answer (is_success answer.status) given own refl shape is
own_shape digest answer given (Err e) shape is = not_expected digest answer digest e (inl refl) is

given_shape : (digest : List ℕ) (answer : Answer) (r : Result (Option Expected) DigestError) → ((given : Option Expected) → r ≡ Ok given → GivenShape answer given) → ((e : DigestError) → r ≡ Err e → DigestCause (AskedDigest digest) answer e) → PlanShape digest answer (planned (and_then r (λ given. and_then (digest_expected digest) (λ own. Ok (pouring (is_success answer.status) given own)))))
given_shape digest answer (Ok given) good bad = own_shape digest answer given (digest_expected digest) (good given refl) refl
given_shape digest answer (Err e) good bad = bad e refl

some_given : (answer : Answer) (text : List ℕ) (r : Result Expected DigestError) (given : Option Expected) → header_digest answer.headers ≡ Ok (Some text) → digest_expected text ≡ r → and_then r (λ x. Ok (Some x)) ≡ Ok given → GivenShape answer given
some_given answer text (Ok x) None named is h = absurd (cc h)
some_given answer text (Ok x) (Some y) named is h =
    let two = expected_ok text (named_algorithm text) x refl is in
    let same : x ≡ y = cc h in
    subst (λ (x : Expected). GivenShape answer (Some x)) same (named ∙ ap (λ (t : List ℕ). Ok (Some t)) (sym two.0), two.1)
some_given answer text (Err e) given named is h = absurd (cc h)

some_refused : (digest : List ℕ) (answer : Answer) (text : List ℕ) (r : Result Expected DigestError) (e : DigestError) → header_digest answer.headers ≡ Ok (Some text) → digest_expected text ≡ r → ◌≡◌ {A = Result (Option Expected) DigestError} (and_then r (λ x. Ok (Some x))) (Err e) → DigestCause (AskedDigest digest) answer e
some_refused digest answer text (Ok x) e named is h = absurd (cc h)
some_refused digest answer text (Err x) e named is h = let same : x ≡ e = cc h in not_expected digest answer text e (inr named) (is ∙ ap Err same)

by_given : (digest : List ℕ) (answer : Answer) (header : Option (List ℕ)) → header_digest answer.headers ≡ Ok header → PlanShape digest answer (planned (plan_by (is_success answer.status) digest header))
by_given digest answer None is = own_shape digest answer None (digest_expected digest) tt refl
by_given digest answer (Some text) is = given_shape digest answer (given_expected (Some text)) (λ given h. some_given answer text (digest_expected text) given is refl h) (λ e h. some_refused digest answer text (digest_expected text) e is refl h)

by_header : (digest : List ℕ) (answer : Answer) (r : Result (Option (List ℕ)) DigestError) → digest_in (first_of digest_header answer.headers) ≡ r → PlanShape digest answer (planned (and_then r (plan_by (is_success answer.status) digest)))
by_header digest answer (Ok header) is = by_given digest answer header (ap (λ (r : Result (Option (List ℕ)) DigestError). or_digest_error r) is)
by_header digest answer (Err e) is = header_cause (AskedDigest digest) answer (first_of digest_header answer.headers) e refl is

plan_shape : (digest : List ℕ) (answer : Answer) → PlanShape digest answer (plan_of digest (head_part answer))
unfolding plan_of
plan_shape digest answer = by_header digest answer (digest_in (first_of digest_header answer.headers)) refl

-- ---- a blob's cause

pub blob_cause : (T : Act → Type 0) (to : Destination) (s : Settings) (digest : List ℕ) (c : List Exchange) (now : ℕ) (e : OciDistributionError) → Loose T (AnswerCause (AskedDigest digest)) s manifest_types c now e → LooseBlob T to s digest c now e
blob_cause T to s digest c now refusal.SinkFault h = absurd h.holds
blob_cause T to s digest c now e h = h

shown : (T : Act → Type 0) (to : Destination) (s : Settings) (digest : List ℕ) (c : List Exchange) (now : ℕ) (address : List ℕ) (answer : Answer) (e : OciDistributionError) → LastAnswer T c address answer → AnswerCause (AskedDigest digest) address answer e → LooseBlob T to s digest c now e
shown T to s digest c now address answer e last h = blob_cause T to s digest c now e (answer_cause T (AskedDigest digest) s manifest_types now c address answer e last h)

abbrev Any : ℕ → List Exchange → ℕ → List ℕ → Type 0
Any m c n bytes = Unit {0}

abbrev Blob : (Act → Type 0) → Destination → Settings → List ℕ → ℕ → List Exchange → ℕ → OciDistributionError → Type 0
Blob T to s digest m c n e = LooseBlob T to s digest c n e

unread_where : (T : Act → Type 0) (to : Destination) (s : Settings) (digest : List ℕ) (m after : ℕ) (c : List Exchange) (address : List ℕ) (answer : Answer) (p : Plan) → PlanShape digest answer p → LastAnswer T c address answer → ByResult Any (Blob T to s digest) m c after (unread_by p)
unread_where T to s digest m after c address answer (plan.Refuse e) shape last = shown T to s digest c after address answer (refusal.DigestError e) last shape
unread_where T to s digest m after c address answer plan.Judge shape last = tt
unread_where T to s digest m after c address answer (plan.Pour given own) shape last = tt

by_bytes : (digest : List ℕ) (address : List ℕ) (answer : Answer) (x : Expected) (b : Bool) (r : Result (Unit {0}) OciDistributionError) → Claimed (AskedDigest digest) answer x.text → named_algorithm x.text ≡ Ok x.algorithm → bytes_eq x.text (digest_text x.algorithm answer.body) ≡ b → (if b then Ok tt else Err (refusal.DigestError (VerificationError x.text (digest_text x.algorithm answer.body)))) ≡ r → (e : OciDistributionError) → r ≡ Err e → AnswerCause (AskedDigest digest) address answer e
by_bytes digest address answer x true r claimed name test is e bad = absurd (cc (is, bad))
by_bytes digest address answer x false r claimed name test is e bad =
    let same : refusal.DigestError (VerificationError x.text (digest_text x.algorithm answer.body)) ≡ e = cc (is, bad) in
    subst (AnswerCause (AskedDigest digest) address answer) same (differs_claimed (AskedDigest digest) answer x.text x.algorithm claimed name test)

not_compared : (digest : List ℕ) (address : List ℕ) (answer : Answer) (x : Expected) (e : OciDistributionError) → Claimed (AskedDigest digest) answer x.text → named_algorithm x.text ≡ Ok x.algorithm → compared x answer.body ≡ Err e → AnswerCause (AskedDigest digest) address answer e
not_compared digest address answer x e claimed name is = by_bytes digest address answer x (bytes_eq x.text (digest_text x.algorithm answer.body)) (compared x answer.body) claimed name refl refl e is

given_refused : (digest : List ℕ) (address : List ℕ) (answer : Answer) (given : Option Expected) (e : OciDistributionError) → GivenShape answer given → given_compared given answer.body ≡ Err e → AnswerCause (AskedDigest digest) address answer e
given_refused digest address answer None e shape is = absurd (cc is)
given_refused digest address answer (Some x) e shape is = not_compared digest address answer x e (inr shape.0) shape.1 is

own_refused : (digest : List ℕ) (address : List ℕ) (answer : Answer) (own : Expected) (e : OciDistributionError) → own.text ≡ digest → named_algorithm own.text ≡ Ok own.algorithm → compared own answer.body ≡ Err e → AnswerCause (AskedDigest digest) address answer e
own_refused digest address answer own e same name is = not_compared digest address answer own e (inl same) name is

poured : (T : Act → Type 0) (to : Destination) (s : Settings) (digest : List ℕ) (m after : ℕ) (c : List Exchange) (address : List ℕ) (answer : Answer) (first second : Result (Unit {0}) OciDistributionError) → ((e : OciDistributionError) → first ≡ Err e → AnswerCause (AskedDigest digest) address answer e) → ((e : OciDistributionError) → second ≡ Err e → AnswerCause (AskedDigest digest) address answer e) → LastAnswer T c address answer → ByResult Any (Blob T to s digest) m c after ((first before second) before Ok answer.body)
poured T to s digest m after c address answer (Err e) second a b last = shown T to s digest c after address answer e last (a e refl)
poured T to s digest m after c address answer (Ok u) (Err e) a b last = shown T to s digest c after address answer e last (b e refl)
poured T to s digest m after c address answer (Ok u) (Ok v) a b last = tt

not_200 : (status : ℕ) → is_success status ≡ false → status ≢ 200
not_200 status is same = cc (sym is ∙ ap is_success same)

read_where : (T : Act → Type 0) (to : Destination) (s : Settings) (digest : List ℕ) (m after : ℕ) (c : List Exchange) (address : List ℕ) (answer : Answer) (p : Plan) → PlanShape digest answer p → LastAnswer T c address answer → ByResult Any (Blob T to s digest) m c after (read_by address answer p)
read_where T to s digest m after c address answer (plan.Refuse e) shape last = shown T to s digest c after address answer (refusal.DigestError e) last shape
read_where T to s digest m after c address answer plan.Judge shape last = shown T to s digest c after address answer _ last (status_cause (AskedDigest digest) address answer (not_200 answer.status shape))
read_where T to s digest m after c address answer (plan.Pour given own) shape last = poured T to s digest m after c address answer (given_compared given answer.body) (compared own answer.body) (λ e is. given_refused digest address answer given e shape.0 is) (λ e is. own_refused digest address answer own e shape.1 shape.2 is) last

limit_is : (to : Destination) (limit n : ℕ) (p : Plan) → limit_of (reading_by to limit p) ≡ Some n → limit ≡ n
limit_is to limit n (plan.Refuse e) is = absurd (cc is)
limit_is to limit n plan.Judge is = cc is
limit_is IntoSink limit n (plan.Pour given own) is = cc is
limit_is IntoMemory limit n (plan.Pour given own) is = cc is

-- no sink is involved if the blob is held in memory
may_fail : (to : Destination) (limit n : ℕ) (p : Plan) → reading_by to limit p ≡ Piped n → SinkMayFail to
may_fail IntoSink limit n p is = tt
may_fail IntoMemory limit n (plan.Refuse e) is = absurd (cc is)
may_fail IntoMemory limit n plan.Judge is = absurd (cc is)
may_fail IntoMemory limit n (plan.Pour given own) is = absurd (cc is)

blob_run : (T : Act → Type 0) (to : Destination) (s : Settings) (digest : List ℕ) (request : Request) → T (Sends request) → (k l : AuthState) (m after o : ℕ) (c d : List Exchange) (last : Request) (reply : Reply) (r : Result (List ℕ) OciDistributionError) → Heard 10 request (blob_reading to s.max_body_bytes digest) m c after last reply → Runs (blob_reply digest last reply) k after d o l r → ByResult Any (Blob T to s digest) m (c ++ d) o r
unfolding blob_reading
blob_run T to s digest request own k l m after o c d last (Headed head) r h run =
    let b = h.replies.reply_is in
    done_run (λ start d o r. ByResult Any (Blob T to s digest) m (c ++ d) o r) (unread_by (plan_of digest head)) k l after o d r
    (subst (λ x. ByResult Any (Blob T to s digest) m x after (unread_by (plan_of digest head))) (sym (append-nil c)) (unread_where T to s digest m after c last.url (answer_of head b.0) (plan_of digest head) (plan_shape digest (answer_of head b.0)) (heard_answer T h own (answer_of head b.0) b.1 h.settles))) run
blob_run T to s digest request own k l m after o c d last (Answered answer) r h run = done_run (λ start d o r. ByResult Any (Blob T to s digest) m (c ++ d) o r) (read_by last.url answer (plan_of digest (head_part answer))) k l after o d r
    (subst (λ x. ByResult Any (Blob T to s digest) m x after (read_by last.url answer (plan_of digest (head_part answer)))) (sym (append-nil c)) (read_where T to s digest m after c last.url answer (plan_of digest (head_part answer)) (plan_shape digest answer) (heard_answer T h own answer h.replies.reply_is.1 h.settles))) run
blob_run T to s digest request own k l m after o c d last Failed r h run = done_run (λ start d o r. ByResult Any (Blob T to s digest) m (c ++ d) o r) (Err refusal.TransportFault) k l after o d r (rw append-nil (heard_failed T h own)) run
blob_run T to s digest request own k l m after o c d last TooLong r h run = done_run (λ start d o r. ByResult Any (Blob T to s digest) m (c ++ d) o r) (Err refusal.BodyTooLong) k l after o d r (rw append-nil (heard_long T h s.max_body_bytes own (λ n head is. limit_is to s.max_body_bytes n (plan_of digest head) is))) run
blob_run T to s digest request own k l m after o c d last SinkFailed r h run = done_run (λ start d o r. ByResult Any (Blob T to s digest) m (c ++ d) o r) (Err refusal.SinkFault) k l after o d r (let b = h.replies.reply_is in may_fail to s.max_body_bytes b.1 (plan_of digest (head_part b.0)) b.3) run

-- after other exchanges
pub blob_later : (T : Act → Type 0) (to : Destination) (s : Settings) (digest : List ℕ) (now : ℕ) (c d : List Exchange) (e : OciDistributionError) → LooseBlob T to s digest d now e → LooseBlob T to s digest (c ++ d) now e
blob_later T to s digest now c d refusal.SinkFault h = h
blob_later T to s digest now c d e h = cause_later T T (AnswerCause (AskedDigest digest)) (AnswerCause (AskedDigest digest)) s manifest_types now c d e (λ text h. h) (λ address answer h. h) h

later_where : (T : Act → Type 0) (to : Destination) (s : Settings) (digest : List ℕ) (m start o : ℕ) (c d : List Exchange) (r : Result (List ℕ) OciDistributionError) → ByResult Any (Blob T to s digest) start d o r → ByResult Any (Blob T to s digest) m (c ++ d) o r
later_where T to s digest m start o c d (Ok x) h = tt
later_where T to s digest m start o c d (Err e) h = blob_later T to s digest o c d e h

early_where : (T : Act → Type 0) (to : Destination) (s : Settings) (digest : List ℕ) {A : Type 0} (P : ℕ → List Exchange → ℕ → A → Type 0) (m n : ℕ) (c : List Exchange) (r : Result A OciDistributionError) → ByResult P (λ m c n e. EarlyCause T e) m c n r → ByResult P (Blob T to s digest) m c n r
early_where T to s digest P m n c (Ok a) h = h
early_where T to s digest P m n c (Err e) h = blob_cause T to s digest c n e (early_cause T (AnswerCause (AskedDigest digest)) s manifest_types n c e h)

-- ---- the places of a descriptor

-- a place of these URLs
abbrev pub OfUrls : List (List ℕ) → Place → Type 0
OfUrls urls p = (text : List ℕ) × Contains urls text × (place_of text ≡ Some p)

contains_head : (x : List ℕ) (xs : List (List ℕ)) → Contains (x ∷ xs) x
contains_head x xs = (0, omega arith, refl)

contains_tail : (x y : List ℕ) (xs : List (List ℕ)) → Contains xs y → Contains (x ∷ xs) y
contains_tail x y xs h = (suc h.0, omega (arith, h.1), h.2)

pub each_more : (P Q : Place → Type 0) → ((p : Place) → P p → Q p) → (places : List Place) → EachPlace P places → EachPlace Q places
each_more P Q more [] h = tt
each_more P Q more (p ∷ ps) h = (more p h.0, each_more P Q more ps h.1)

with_first : (text : List ℕ) (texts : List (List ℕ)) (places : List Place) (o : Option Place) → place_of text ≡ o → EachPlace (OfUrls texts) places → EachPlace (OfUrls (text ∷ texts)) (with_place o places)
with_first text texts places None is rest = each_more (OfUrls texts) (OfUrls (text ∷ texts)) (λ p h. (h.0, contains_tail text h.0 texts h.1, h.2)) places rest
with_first text texts places (Some p) is rest = ((text, contains_head text texts, is), each_more (OfUrls texts) (OfUrls (text ∷ texts)) (λ p h. (h.0, contains_tail text h.0 texts h.1, h.2)) places rest)

pub places_are : (urls : List (List ℕ)) → EachPlace (OfUrls urls) (places_of urls)
places_are [] = tt
places_are (text ∷ texts) = with_first text texts (places_of texts) (place_of text) refl (places_are texts)

-- an unfit URL is not the URL of a request, and the place has its text
abbrev pub UnfitAs : List ℕ → Option Place → Type 0
UnfitAs text (Some (Unfit other)) = (text ≡ other) × (request_url text ≡ None)
UnfitAs text o = Unit {0}

by_owner : (text : List ℕ) (url : Parts) (web free : Bool) → (free ≡ false → request_url text ≡ None) → UnfitAs text (if web then Some (if free then Web url else Unfit text) else None)
by_owner text url true true none = tt
by_owner text url true false none = (refl, none refl)
by_owner text url false free none = tt

owned : (url : Parts) (web free : Bool) → free ≡ false → (if (web && free) then Some url else None) ≡ None
owned url true true is = absurd (cc is)
owned url true false is = refl
owned url false free is = refl

unfit_read : (text : List ℕ) (r : Parsed Parts) → readable r ≡ request_url text → UnfitAs text (taken_as text r)
unfit_read text (Ok url) is = by_owner text url (bytes_eq url.scheme (codes "http") || bytes_eq url.scheme (codes "https")) (is_empty url.username && is_empty url.password) (λ free. sym is ∙ owned url (bytes_eq url.scheme (codes "http") || bytes_eq url.scheme (codes "https")) (is_empty url.username && is_empty url.password) free)
unfit_read text (Err e) is = (refl, sym is)

pub unfit_as : (text : List ℕ) → UnfitAs text (place_of text)
unfolding place_of request_url
unfit_as text = unfit_read text (parse_url None text) refl

pub unfit_is : (text other : List ℕ) (o : Option Place) → UnfitAs text o → o ≡ Some (Unfit other) → (text ≡ other) × (request_url text ≡ None)
unfit_is text other (Some (Unfit found)) h is = let same : found ≡ other = cc is in (h.0 ∙ same, h.1)
unfit_is text other (Some (Web url)) h is = absurd (cc is)
unfit_is text other None h is = absurd (cc is)

web_refused : (T : Act → Type 0) (to : Destination) (s : Settings) (digest : List ℕ) (url : Parts) (r : Result Request OciDistributionError) → Early T r → (e : OciDistributionError) → r ≡ Err e → (m : ℕ) → LooseBlob T to s digest [] m e
web_refused T to s digest url (Ok request) early e is m = absurd (cc is)
web_refused T to s digest url (Err x) early e is m = let same : x ≡ e = cc is in blob_cause T to s digest [] m e (early_cause T (AnswerCause (AskedDigest digest)) s manifest_types m [] e (subst (λ (x : OciDistributionError). EarlyCause T x) same early))

place_refused : (T : Act → Type 0) (to : Destination) (s : Settings) (digest : List ℕ) (urls : List (List ℕ)) → ((text : List ℕ) → UnfitUrl urls text → T (Reads text)) → (p : Place) → OfUrls urls p → Unasked (ByResult Any (Blob T to s digest)) s p
unfolding asked_at
place_refused T to s digest urls listed (Web url) has e is m = web_refused T to s digest url (request_of s Get url (Some manifest_types) None) (request_early T s Get url manifest_types None) e is m
place_refused T to s digest urls listed (Unfit text) has e is m =
    let unfit = unfit_is has.0 text (place_of has.0) (unfit_as has.0) has.2 in
    let same : refusal.UrlParseError text ≡ e = cc is in
    let here : UnfitUrl urls text = (subst (Contains urls) unfit.0 has.1, subst (λ (t : List ℕ). place_of t ≡ Some (Unfit text)) unfit.0 has.2) in
    subst (λ (x : OciDistributionError). LooseBlob T to s digest [] m x) same (subst (λ (t : List ℕ). request_url t ≡ None) unfit.0 unfit.1, listed text here)

-- the request at a place is for a listed URL
pub listed_own : (s : Settings) (urls : List (List ℕ)) (p : Place) (request : Request) → OfUrls urls p → asked_at s p ≡ Ok request → AsksListed s urls request
unfolding asked_at
listed_own s urls (Web url) request has is = (has.0, has.1, url, has.2, (Get, manifest_types, asks_of s Get url (Some manifest_types) None request is))
listed_own s urls (Unfit text) request has is = absurd (cc is)

tried_causes : (T : Act → Type 0) (to : Destination) (s : Settings) (layer : Layer) → ((text : List ℕ) → UnfitUrl layer.urls text → T (Reads text)) → ((request : Request) → AsksListed s layer.urls request → T (Sends request)) → (request : Request) → T (Sends request) → EveryRun (ByResult Any (Blob T to s layer.digest)) (tried to s layer.digest (places_of layer.urls) request)
tried_causes T to s layer listed others request own = tried_law (ByResult Any (Blob T to s layer.digest)) (λ request. T (Sends request)) to s layer.digest (λ request own. blob_run T to s layer.digest request own) (λ m start n c d r h. later_where T to s layer.digest m start n c d r h) (places_of layer.urls)
    (each_more (OfUrls layer.urls) (Gives (λ request. T (Sends request)) s) (λ p has request is. others request (listed_own s layer.urls p request has is)) (places_of layer.urls) (places_are layer.urls))
    (each_more (OfUrls layer.urls) (Unasked (ByResult Any (Blob T to s layer.digest)) s) (place_refused T to s layer.digest layer.urls listed) (places_of layer.urls) (places_are layer.urls)) request own

-- the prepared request is for the blob's address
pub blob_own : (s : Settings) (image : Reference) (layer : Layer) (url : Parts) (c : List Exchange) (request : Request) → url_read (blob_text s image layer.digest) ≡ Ok url → Prepared s image Pull Get url manifest_types c request → BlobUrl s image layer (Sends request)
blob_own s image layer url c request is p = inl (url, url_is (blob_text s image layer.digest) (request_url (blob_text s image layer.digest)) url is, asks_at s image Pull Get url manifest_types c request p)

-- each refusal has its cause
pub blob_causes : (to : Destination) (s : Context) (image : Reference) (layer : Layer) → EveryRun (ByResult (λ m c n bytes. Unit {0}) (λ m c n e. LooseBlob (BlobUrl s.settings image layer) to s.settings layer.digest c n e)) (blob_to to s image layer)
unfolding blob_to
blob_causes to s image layer = EveryRun-step (ByResult Any (Blob (BlobUrl s.settings image layer) to s.settings layer.digest)) (url_read (blob_text s.settings image layer.digest)) (λ url. prepared s image Pull Get url manifest_types >>= λ request. tried to s.settings layer.digest (places_of layer.urls) request)
    (λ url is. EveryRun-each (λ m c n request. Prepared s.settings image Pull Get url manifest_types c request) Any (Blob (BlobUrl s.settings image layer) to s.settings layer.digest) (prepared s image Pull Get url manifest_types) (λ request. tried to s.settings layer.digest (places_of layer.urls) request)
    (EveryRun-more (ByResult (λ m c n request. Prepared s.settings image Pull Get url manifest_types c request) (λ m c n e. EarlyCause (BlobUrl s.settings image layer) e)) (ByResult (λ m c n request. Prepared s.settings image Pull Get url manifest_types c request) (Blob (BlobUrl s.settings image layer) to s.settings layer.digest)) (prepared s image Pull Get url manifest_types) (prepared_causes (BlobUrl s.settings image layer) s image Pull Get url manifest_types (inl refl)) (early_where (BlobUrl s.settings image layer) to s.settings layer.digest (λ m c n request. Prepared s.settings image Pull Get url manifest_types c request)))
    (λ m n c request p. EveryRun-more (ByResult Any (Blob (BlobUrl s.settings image layer) to s.settings layer.digest)) (λ start d o r. ByResult Any (Blob (BlobUrl s.settings image layer) to s.settings layer.digest) m (c ++ d) o r) (tried to s.settings layer.digest (places_of layer.urls) request) (tried_causes (BlobUrl s.settings image layer) to s.settings layer (λ text h. inr (inr h)) (λ request h. inr h) request (blob_own s.settings image layer url c request is p)) (λ start o d r h. later_where (BlobUrl s.settings image layer) to s.settings layer.digest m start o c d r h)))
    (λ e is m. blob_cause (BlobUrl s.settings image layer) to s.settings layer.digest [] m e (url_cause (BlobUrl s.settings image layer) (AnswerCause (AskedDigest layer.digest)) s.settings manifest_types (blob_text s.settings image layer.digest) m [] e (inr (inl refl)) is))
