-- Which properties the call has that returns a blob.
use Rattle.std.proofs.Common.{◌≡◌, ℕ, Bool, true, false, List, [], ◌∷◌, ◌++◌, Option, Result, Ok, Err, bytes_eq, refl, sym, ap, subst, ◌∙◌, append_assoc, append-nil}
use Rattle.std.specs.Prelude.{if◌then◌else◌}
use Rattle.std.proofs.lemmas.Slice.Eq.{bytes_eq-Decides}
use Rattle.oci_transport.specs.Headers.{digest_header, first_of}
use Rattle.oci_transport.specs.declared.message.Request.{Request}
use Rattle.oci_transport.specs.declared.message.Answer.{Answer}
use Rattle.oci_transport.specs.declared.message.AnswerHead.{AnswerHead}
use Rattle.oci_transport.specs.declared.message.Exchange.{Exchange}
use Rattle.oci_transport.specs.declared.message.Method.TheVariants.{Get}
use Rattle.oci_names.specs.declared.reference.Reference.{Reference}
use Rattle.oci_digests.specs.Names.{Names, digest_text}
use Rattle.oci_digests.specs.Checks.{named_algorithm}
use Rattle.oci_digests.specs.Checks.{header_digest as digest_in, and_then}
use Rattle.oci_digests.specs.declared.error.DigestError.{DigestError}
use Rattle.oci_digests.specs.declared.error.DigestError.TheVariants.{VerificationError}
use Rattle.oci_auth.specs.declared.auth_state.AuthState.{AuthState}
use Rattle.oci_auth.specs.declared.token_type.RegistryOperation.TheVariants.{Pull}
use Rattle.oci_protocol.specs.Proto.{Unread, Reply, Headed, Answered, Failed, TooLong, SinkFailed, ◌>>=◌}
use Rattle.oci_protocol.specs.Runs.{head_part, Runs}
use Rattle.oci_protocol.specs.EveryRun.{EveryRun, WhenOk, Heard}
use Rattle.oci_protocol.proofs.RunFacts.{done_run, EveryRun-more, EveryRun-next, EveryRun-step}
use Rattle.engine_answers.specs.declared.blobs.Expected.{Expected}
use Rattle.engine_answers.specs.declared.blobs.Plan.{Plan}
use Rattle.engine_answers.specs.declared.blobs.Plan.TheVariants as plan
use Rattle.engine_terms.specs.Contexts.{Context}
use Rattle.engine_terms.specs.declared.settings.Settings.{Settings}
use Rattle.engine_requests.specs.declared.sources.Place.{Place}
use Rattle.engine_requests.specs.Sources.{Layer, places_of}
use Rattle.engine_terms.specs.declared.error.OciDistributionError.{OciDistributionError}
use Rattle.engine_terms.specs.declared.error.OciDistributionError.TheVariants as refusal
use Rattle.json_values.specs.Refusals.{◌>>◌ as ◌before◌}
use Rattle.engine_requests.specs.Addresses.{blob_text, url_read}
use Rattle.engine_requests.specs.Requests.{manifest_types}
use Rattle.engine_answers.specs.Answers.{is_success}
use Rattle.engine_answers.specs.Blobs.{digest_expected, given_expected, pouring, plan_by, planned, plan_in, plan_of, compared, given_compared, both_compared}
use Rattle.engine_rows.specs.Rows.{prepared}
use Rattle.engine_rows.specs.Blobs.{Destination, IntoSink, IntoMemory, reading_into, reading_by, blob_reading, unread_by, read_by, blob_reply}
use Rattle.engine_rows.specs.Offers.{tried}
use Rattle.engine_rows.specs.Pulls.{blob_to}
use Rattle.engine_rows.specs.Answered.{LedTo, Body, LastBody}
use Rattle.request_laws.proofs.PreparedRequests.{into_ok, Prepared, prepared_shows}
use Rattle.request_laws.proofs.DocumentAnswers.{led_of, body_after, body_led}
use Rattle.request_laws.proofs.OfferedPlaces.{EachPlace, Unasked, Gives, tried_law}

-- ---- the expected digest is the requested one

then_ok : {A B : Type 0} (r : Result A DigestError) (f : A → Result B DigestError) (b : B) → and_then r f ≡ Ok b → (a : A) × (r ≡ Ok a) × (f a ≡ Ok b)
then_ok (Ok a) f b is = (a, refl, is)
then_ok (Err e) f b is = absurd (cc is)

pour_own : (good : Bool) (header given : Option Expected) (found own : Expected) → pouring good header found ≡ plan.Pour given own → found ≡ own
pour_own true header given found own is = cc is
pour_own false header given found own is = absurd (cc is)

planned_is : (r : Result Plan DigestError) (given : Option Expected) (own : Expected) → planned r ≡ plan.Pour given own → r ≡ Ok (plan.Pour given own)
planned_is (Ok p) given own is = ap Ok is
planned_is (Err e) given own is = absurd (cc is)

expected_text : (digest : List ℕ) (own : Expected) → digest_expected digest ≡ Ok own → digest ≡ own.text
expected_text digest own is =
    let one = then_ok (named_algorithm digest) (λ a. Ok (record { text = digest; algorithm = a })) own is in
    let same : record { text = digest; algorithm = one.0 } ≡ own = cc (one.2) in
    ap (λ (x : Expected). x.text) same

own_text : (digest : List ℕ) (head : AnswerHead) (given : Option Expected) (own : Expected) → plan_of digest head ≡ plan.Pour given own → digest ≡ own.text
unfolding plan_of
own_text digest head given own is =
    let first = then_ok (digest_in (first_of digest_header head.headers)) (plan_by (is_success head.status) digest) (plan.Pour given own) (planned_is (plan_in digest head) given own is) in
    let second = then_ok (given_expected first.0) (λ g. and_then (digest_expected digest) (λ x. Ok (pouring (is_success head.status) g x))) (plan.Pour given own) first.2 in
    let third = then_ok (digest_expected digest) (λ x. Ok (pouring (is_success head.status) second.0 x)) (plan.Pour given own) second.2 in
    let same = pour_own (is_success head.status) second.0 given third.0 own (cc (third.2)) in
    expected_text digest third.0 third.1 ∙ ap (λ (x : Expected). x.text) same

compared_names : (x : Expected) (body : List ℕ) (u : Unit {0}) → compared x body ≡ Ok u → Names x.text body
compared_names x body u = by_test (bytes_eq x.text (digest_text x.algorithm body)) refl where
  by_test : (b : Bool) → bytes_eq x.text (digest_text x.algorithm body) ≡ b → (if b then Ok tt else Err (refusal.DigestError (VerificationError x.text (digest_text x.algorithm body)))) ≡ Ok u → Names x.text body
  by_test true test is = (x.algorithm, (bytes_eq-Decides x.text (digest_text x.algorithm body)).0 test)
  by_test false test is = absurd (cc is)

-- what was piped into the digesters is the body, and the digest names it
poured_is : (given : Option Expected) (own : Expected) (body bytes : List ℕ) → (both_compared given own body before Ok body) ≡ Ok bytes → (body ≡ bytes) × Names own.text body
poured_is given own body bytes is =
    let first = into_ok (both_compared given own body) (λ u. Ok body) bytes is in
    let second = into_ok (given_compared given body) (λ u. compared own body) first.0 first.1 in
    (cc (first.2), compared_names own body first.0 second.2)

-- ---- the row

-- the bytes are the body of the last response, which the digest names
abbrev pub Blob : List ℕ → List Exchange → List ℕ → Type 0
Blob digest c bytes = Body c bytes × Names digest bytes × LastBody c bytes

last_led : {request : Request} {c : List Exchange} {answer : Answer} → LedTo request c answer → LastBody c answer.body
last_led {answer = answer} led = record { before = led.redirects; last = led.last; split = led.split; answer = answer; answered = led.answered; body = refl }

last_after : (c : List Exchange) {d : List Exchange} {bytes : List ℕ} → LastBody d bytes → LastBody (c ++ d) bytes
last_after c b = record { before = c ++ b.before; last = b.last; split = ap (λ x. c ++ x) b.split ∙ sym (append_assoc c b.before (b.last ∷ [])); answer = b.answer; answered = b.answered; body = b.body }

never_unread : (to : Destination) (limit : ℕ) → reading_into to limit ≡ Unread → ⊥
never_unread IntoSink limit is = cc is
never_unread IntoMemory limit is = cc is

unread_where : (to : Destination) (digest : List ℕ) (limit m after : ℕ) (c : List Exchange) (p : Plan) → reading_by to limit p ≡ Unread → WhenOk (λ m c n bytes. Blob digest c bytes) m (c ++ []) after (unread_by p)
unread_where to digest limit m after c (plan.Refuse e) reading = tt
unread_where to digest limit m after c plan.Judge reading = absurd (cc reading)
unread_where to digest limit m after c (plan.Pour given own) reading = absurd (never_unread to limit reading)

blob_of : (digest : List ℕ) (url : List ℕ) (m after : ℕ) (c : List Exchange) (answer : Answer) (given : Option Expected) (own : Expected) → digest ≡ own.text → Body c answer.body → LastBody c answer.body → (r : Result (List ℕ) OciDistributionError) → (both_compared given own answer.body before Ok answer.body) ≡ r → WhenOk (λ m c n bytes. Blob digest c bytes) m (c ++ []) after r
blob_of digest url m after c answer given own same body last (Ok bytes) is =
    let poured = poured_is given own answer.body bytes is in
    rw append-nil (subst (Body c) poured.0 body, subst (λ (b : List ℕ). Names digest b) poured.0 (subst (λ (t : List ℕ). Names t answer.body) (sym same) poured.1), subst (LastBody c) poured.0 last)
blob_of digest url m after c answer given own same body last (Err e) is = tt

read_where : (digest url : List ℕ) (m after : ℕ) (c : List Exchange) (answer : Answer) (p : Plan) → plan_of digest (head_part answer) ≡ p → Body c answer.body → LastBody c answer.body → WhenOk (λ m c n bytes. Blob digest c bytes) m (c ++ []) after (read_by url answer p)
read_where digest url m after c answer (plan.Refuse e) is body last = tt
read_where digest url m after c answer plan.Judge is body last = tt
read_where digest url m after c answer (plan.Pour given own) is body last = blob_of digest url m after c answer given own (own_text digest (head_part answer) given own is) body last (both_compared given own answer.body before Ok answer.body) refl

blob_run : (to : Destination) (digest : List ℕ) (request : Request) (limit : ℕ) (k l : AuthState) (m after o : ℕ) (c d : List Exchange) (last : Request) (reply : Reply) (r : Result (List ℕ) OciDistributionError) → Heard 10 request (blob_reading to limit digest) m c after last reply → Runs (blob_reply digest last reply) k after d o l r → WhenOk (λ m c n bytes. Blob digest c bytes) m (c ++ d) o r
unfolding blob_reading
blob_run to digest request limit k l m after o c d last (Headed head) r h run = done_run (λ s d o r. WhenOk (λ m c n bytes. Blob digest c bytes) m (c ++ d) o r) (unread_by (plan_of digest head)) k l after o d r (unread_where to digest limit m after c (plan_of digest head) h.replies.reply_is.2) run
blob_run to digest request limit k l m after o c d last (Answered answer) r h run = done_run (λ s d o r. WhenOk (λ m c n bytes. Blob digest c bytes) m (c ++ d) o r) (read_by last.url answer (plan_of digest (head_part answer))) k l after o d r (read_where digest last.url m after c answer (plan_of digest (head_part answer)) refl (body_led (led_of h answer h.replies.reply_is.1 h.settles)) (last_led (led_of h answer h.replies.reply_is.1 h.settles))) run
blob_run to digest request limit k l m after o c d last Failed r h run = done_run (λ s d o r. WhenOk (λ m c n bytes. Blob digest c bytes) m (c ++ d) o r) (Err refusal.TransportFault) k l after o d r tt run
blob_run to digest request limit k l m after o c d last TooLong r h run = done_run (λ s d o r. WhenOk (λ m c n bytes. Blob digest c bytes) m (c ++ d) o r) (Err refusal.BodyTooLong) k l after o d r tt run
blob_run to digest request limit k l m after o c d last SinkFailed r h run = done_run (λ s d o r. WhenOk (λ m c n bytes. Blob digest c bytes) m (c ++ d) o r) (Err refusal.SinkFault) k l after o d r tt run

later_where : (digest : List ℕ) (c : List Exchange) (m start n : ℕ) (d : List Exchange) (r : Result (List ℕ) OciDistributionError) → WhenOk (λ m c n bytes. Blob digest c bytes) start d n r → WhenOk (λ m c n bytes. Blob digest c bytes) m (c ++ d) n r
later_where digest c m start n d (Ok bytes) h = (body_after c h.0, h.1, last_after c h.2)
later_where digest c m start n d (Err e) h = tt

unasked_shows : (s : Settings) (digest : List ℕ) (places : List Place) → EachPlace (Unasked (WhenOk (λ m c n bytes. Blob digest c bytes)) s) places
unasked_shows s digest [] = tt
unasked_shows s digest (p ∷ ps) = ((λ e is m. tt), unasked_shows s digest ps)

given_shows : (s : Settings) (places : List Place) → EachPlace (Gives (λ request. Unit {0}) s) places
given_shows s [] = tt
given_shows s (p ∷ ps) = ((λ request is. tt), given_shows s ps)

tried_shows : (to : Destination) (s : Settings) (digest : List ℕ) (places : List Place) (request : Request) → EveryRun (WhenOk (λ m c n bytes. Blob digest c bytes)) (tried to s digest places request)
tried_shows to s digest places request = tried_law (WhenOk (λ m c n bytes. Blob digest c bytes)) (λ request. Unit {0}) to s digest (λ request good. blob_run to digest request s.max_body_bytes) (λ m start n c d r h. later_where digest c m start n d r h) places (given_shows s places) (unasked_shows s digest places) request tt

-- the bytes are those of a response, and the digest names them
pub blob_shows : (to : Destination) (s : Context) (image : Reference) (layer : Layer) → EveryRun (WhenOk (λ m c n bytes. Blob layer.digest c bytes)) (blob_to to s image layer)
unfolding blob_to
blob_shows to s image layer = EveryRun-step (WhenOk (λ m c n bytes. Blob layer.digest c bytes)) (url_read (blob_text s.settings image layer.digest)) (λ url. prepared s image Pull Get url manifest_types >>= λ request. tried to s.settings layer.digest (places_of layer.urls) request)
    (λ url is. EveryRun-next (λ m c n request. Prepared s.settings image Pull Get url manifest_types c request) (λ m c n bytes. Blob layer.digest c bytes) (prepared s image Pull Get url manifest_types) (λ request. tried to s.settings layer.digest (places_of layer.urls) request) (prepared_shows s image Pull Get url manifest_types)
    (λ m n c request p. EveryRun-more (WhenOk (λ m c n bytes. Blob layer.digest c bytes)) (λ start d o r. WhenOk (λ m c n bytes. Blob layer.digest c bytes) m (c ++ d) o r) (tried to s.settings layer.digest (places_of layer.urls) request) (tried_shows to s.settings layer.digest (places_of layer.urls) request) (λ start o d r h. later_where layer.digest c m start o d r h)))
    (λ e is m. tt)
