-- What the pull of one blob returns: the body of a response, which its digest names, with at most as many bytes as its
-- descriptor states.
use Rattle.std.proofs.Common.{◌≡◌, ◌≤◌, ℕ, Bool, true, false, List, [], ◌∷◌, ◌++◌, Option, Some, None, Result, Ok, Err, IfOk, bytes_eq, length, refl, sym, ap, subst, ◌∙◌, append-nil}
use Rattle.std.specs.Prelude.{if◌then◌else◌}
use Rattle.std.proofs.lemmas.Slice.Eq.{bytes_eq-Decides}
use Rattle.url.specs.Parts.{Parts}
use Rattle.byte_streams.specs.SinkState.{SinkState}
use Rattle.oci_transport.specs.Headers.{digest_header, first_of}
use Rattle.oci_transport.specs.Link.{Link}
use Rattle.oci_transport.specs.declared.message.Request.{Request}
use Rattle.oci_transport.specs.declared.message.Answer.{Answer}
use Rattle.oci_transport.specs.declared.message.AnswerHead.{AnswerHead}
use Rattle.oci_transport.specs.declared.message.Exchange.{Exchange}
use Rattle.oci_transport.specs.declared.message.Method.TheVariants.{Get}
use Rattle.oci_names.specs.declared.reference.Reference.{Reference}
use Rattle.oci_manifests.specs.declared.descriptor.OciDescriptor.{OciDescriptor}
use Rattle.oci_digests.specs.Names.{Names, digest_text}
use Rattle.oci_digests.specs.Checks.{named_algorithm}
use Rattle.oci_digests.specs.Checks.{header_digest as digest_in, and_then}
use Rattle.oci_digests.specs.declared.error.DigestError.{DigestError}
use Rattle.oci_digests.specs.declared.error.DigestError.TheVariants.{VerificationError}
use Rattle.oci_auth.specs.declared.auth_state.AuthState.{AuthState}
use Rattle.oci_auth.specs.declared.token_type.RegistryTokenType.{RegistryTokenType}
use Rattle.oci_protocol.specs.Proto.{Unread, limit_of, Reply, Headed, Answered, Failed, TooLong, SinkFailed, Done, ◌>>=◌}
use Rattle.oci_protocol.specs.Runs.{head_part, Runs, Meets, Told}
use Rattle.oci_protocol.specs.EveryRun.{EveryRun, WhenOk, Heard}
use Rattle.oci_protocol.proofs.RunFacts.{done_run, EveryRun-step, Meets-shows-ok}
use Rattle.engine_answers.specs.declared.blobs.Expected.{Expected}
use Rattle.engine_answers.specs.declared.blobs.Plan.{Plan}
use Rattle.engine_answers.specs.declared.blobs.Plan.TheVariants as plan
use Rattle.engine_terms.specs.declared.settings.Settings.{Settings}
use Rattle.engine_requests.specs.declared.sources.Place.{Place}
use Rattle.engine_requests.specs.Sources.{described, places_of}
use Rattle.engine_terms.specs.declared.error.OciDistributionError.{OciDistributionError}
use Rattle.engine_terms.specs.declared.error.OciDistributionError.TheVariants as refusal
use Rattle.engine_terms.specs.Error.{is_memory}
use Rattle.json_values.specs.Refusals.{◌>>◌ as ◌before◌}
use Rattle.engine_requests.specs.Addresses.{blob_text, url_read}
use Rattle.engine_requests.specs.Requests.{manifest_types, request_of}
use Rattle.engine_answers.specs.Answers.{is_success}
use Rattle.engine_answers.specs.Blobs.{digest_expected, given_expected, pouring, plan_by, planned, plan_in, plan_of, compared, given_compared, both_compared}
use Rattle.engine_rows.specs.Blobs.{IntoSink, reading_by, blob_reading, unread_by, read_by, blob_reply}
use Rattle.engine_rows.specs.Answered.{Body}
use Rattle.request_laws.proofs.PreparedRequests.{into_ok}
use Rattle.request_laws.proofs.DocumentAnswers.{led_of, body_after, body_led}
use Rattle.request_laws.proofs.OfferedPlaces.{EachPlace, Unasked, Gives}
use Rattle.call_laws.specs.Cut.{size_of, most, cut_at}
use Rattle.call_laws.specs.Blobs.{sent_token, blob_with}
use Rattle.call_laws.specs.Taken.{IsBlobOf}
use Rattle.call_laws.proofs.CutRuns.{own_reading, cut_at_law}

-- ---- the expected digest is the requested one

then_ok : {A B : Type 0} (r : Result A DigestError) (f : A → Result B DigestError) (b : B) → and_then r f ≡ Ok b → (a : A) × (r ≡ Ok a) × (f a ≡ Ok b)
then_ok (Ok a) f b is = (a, refl, is)
then_ok (Err e) f b is = absurd (cc is)

pour_own : (good : Bool) (header given : Option Expected) (found own : Expected) → pouring good header found ≡ plan.Pour given own → (found ≡ own) × (good ≡ true)
pour_own true header given found own is = (cc is, refl)
pour_own false header given found own is = absurd (cc is)

planned_is : (r : Result Plan DigestError) (given : Option Expected) (own : Expected) → planned r ≡ plan.Pour given own → r ≡ Ok (plan.Pour given own)
planned_is (Ok p) given own is = ap Ok is
planned_is (Err e) given own is = absurd (cc is)

expected_text : (digest : List ℕ) (own : Expected) → digest_expected digest ≡ Ok own → digest ≡ own.text
expected_text digest own is =
    let one = then_ok (named_algorithm digest) (λ a. Ok (record { text = digest; algorithm = a })) own is in
    let same : record { text = digest; algorithm = one.0 } ≡ own = cc (one.2) in
    ap (λ (x : Expected). x.text) same

-- the text is the requested digest, and the status is 2xx
poured : (digest : List ℕ) (head : AnswerHead) (given : Option Expected) (own : Expected) → plan_of digest head ≡ plan.Pour given own → (digest ≡ own.text) × (is_success head.status ≡ true)
unfolding plan_of
poured digest head given own is =
    let first = then_ok (digest_in (first_of digest_header head.headers)) (plan_by (is_success head.status) digest) (plan.Pour given own) (planned_is (plan_in digest head) given own is) in
    let second = then_ok (given_expected first.0) (λ g. and_then (digest_expected digest) (λ x. Ok (pouring (is_success head.status) g x))) (plan.Pour given own) first.2 in
    let third = then_ok (digest_expected digest) (λ x. Ok (pouring (is_success head.status) second.0 x)) (plan.Pour given own) second.2 in
    let same = pour_own (is_success head.status) second.0 given third.0 own (cc (third.2)) in
    (expected_text digest third.0 third.1 ∙ ap (λ (x : Expected). x.text) same.0, same.1)

compared_names : (x : Expected) (body : List ℕ) (u : Unit {0}) → compared x body ≡ Ok u → Names x.text body
compared_names x body u = by_test (bytes_eq x.text (digest_text x.algorithm body)) refl where
  by_test : (b : Bool) → bytes_eq x.text (digest_text x.algorithm body) ≡ b → (if b then Ok tt else Err (refusal.DigestError (VerificationError x.text (digest_text x.algorithm body)))) ≡ Ok u → Names x.text body
  by_test true test is = (x.algorithm, (bytes_eq-Decides x.text (digest_text x.algorithm body)).0 test)
  by_test false test is = absurd (cc is)

-- what was piped into the digesters is the body, and the digest names it
poured_is : (given : Option Expected) (own : Expected) (body bytes : List ℕ) → (both_compared given own body before Ok body) ≡ Ok bytes → (body ≡ bytes) × Names own.text body
poured_is given own body bytes is =
    let first = into_ok (both_compared given own body) (λ u. Ok body) bytes is in
    let second = into_ok (given_compared given body) (λ u. compared own body) first.0 first.1 in
    (cc (first.2), compared_names own body first.0 second.2)

-- a body that is poured is read within the blob's size
poured_limit : (s : Settings) (size n : ℕ) (digest : List ℕ) (head : AnswerHead) (given : Option Expected) (own : Expected) → plan_of digest head ≡ plan.Pour given own → limit_of (own_reading s size digest head) ≡ Some n → size ≡ n
unfolding blob_reading
poured_limit s size n digest head given own is limit =
    let good = (poured digest head given own is).1 in
    let reads : reading_by IntoSink (most s size head) (plan_of digest head) ≡ reading_by IntoSink size (plan.Pour given own) = ap (λ (p : Plan). reading_by IntoSink (most s size head) p) is ∙ ap (λ (b : Bool). reading_by IntoSink (if b then size else s.max_body_bytes) (plan.Pour given own)) good in
    let same : Some size ≡ Some n = sym (ap limit_of reads) ∙ limit in cc same

-- ---- the row

module _ (s : Settings) (x : OciDescriptor) where
  abbrev Is : ℕ → List Exchange → ℕ → List ℕ → Type 0
  Is m c n bytes = IsBlobOf c x bytes

  unread_where : (m after : ℕ) (c : List Exchange) (n : ℕ) (p : Plan) → reading_by IntoSink n p ≡ Unread → WhenOk Is m (c ++ []) after (unread_by p)
  unread_where m after c n (plan.Refuse e) reading = tt
  unread_where m after c n plan.Judge reading = absurd (cc reading)
  unread_where m after c n (plan.Pour given own) reading = absurd (cc reading)

  blob_of : (m after : ℕ) (c : List Exchange) (answer : Answer) (given : Option Expected) (own : Expected) → x.digest ≡ own.text → Body c answer.body → length answer.body ≤ size_of x → (r : Result (List ℕ) OciDistributionError) → (both_compared given own answer.body before Ok answer.body) ≡ r → WhenOk Is m (c ++ []) after r
  blob_of m after c answer given own same body small (Ok bytes) is =
      let found = poured_is given own answer.body bytes is in
      let whole : IsBlobOf c x answer.body = record { names = subst (λ (t : List ℕ). Names t answer.body) (sym same) found.1; within = small; body = body } in
      rw append-nil (subst (λ (b : List ℕ). IsBlobOf c x b) found.0 whole)
  blob_of m after c answer given own same body small (Err e) is = tt

  read_where : (url : List ℕ) (m after n : ℕ) (c : List Exchange) (answer : Answer) (p : Plan) → plan_of x.digest (head_part answer) ≡ p → limit_of (own_reading s (size_of x) x.digest (head_part answer)) ≡ Some n → length answer.body ≤ n → Body c answer.body → WhenOk Is m (c ++ []) after (read_by url answer p)
  read_where url m after n c answer (plan.Refuse e) is limit small body = tt
  read_where url m after n c answer plan.Judge is limit small body = tt
  read_where url m after n c answer (plan.Pour given own) is limit small body = blob_of m after c answer given own (poured x.digest (head_part answer) given own is).0 body (rw (poured_limit s (size_of x) n x.digest (head_part answer) given own is limit) small) (both_compared given own answer.body before Ok answer.body) refl

  blob_run : (request : Request) (k l : AuthState) (m after o : ℕ) (c d : List Exchange) (last : Request) (reply : Reply) (r : Result (List ℕ) OciDistributionError) → Heard 10 request (own_reading s (size_of x) x.digest) m c after last reply → Runs (blob_reply x.digest last reply) k after d o l r → WhenOk Is m (c ++ d) o r
  unfolding blob_reading
  blob_run request k l m after o c d last (Headed head) r h run = done_run (λ start d o r. WhenOk Is m (c ++ d) o r) (unread_by (plan_of x.digest head)) k l after o d r (unread_where m after c (most s (size_of x) head) (plan_of x.digest head) h.replies.reply_is.2) run
  blob_run request k l m after o c d last (Answered answer) r h run = done_run (λ start d o r. WhenOk Is m (c ++ d) o r) (read_by last.url answer (plan_of x.digest (head_part answer))) k l after o d r (read_where last.url m after h.replies.reply_is.0 c answer (plan_of x.digest (head_part answer)) refl h.replies.reply_is.2 h.replies.reply_is.3 (body_led (led_of h answer h.replies.reply_is.1 h.settles))) run
  blob_run request k l m after o c d last Failed r h run = done_run (λ start d o r. WhenOk Is m (c ++ d) o r) (Err refusal.TransportFault) k l after o d r tt run
  blob_run request k l m after o c d last TooLong r h run = done_run (λ start d o r. WhenOk Is m (c ++ d) o r) (Err refusal.BodyTooLong) k l after o d r tt run
  blob_run request k l m after o c d last SinkFailed r h run = done_run (λ start d o r. WhenOk Is m (c ++ d) o r) (Err refusal.SinkFault) k l after o d r tt run

  later_where : (m start n : ℕ) (c d : List Exchange) (r : Result (List ℕ) OciDistributionError) → WhenOk Is start d n r → WhenOk Is m (c ++ d) n r
  later_where m start n c d (Ok bytes) h = record { names = h.names; within = h.within; body = body_after c h.body }
  later_where m start n c d (Err e) h = tt

  unasked_shows : (places : List Place) → EachPlace (Unasked (WhenOk Is) s) places
  unasked_shows [] = tt
  unasked_shows (p ∷ ps) = ((λ e is m. tt), unasked_shows ps)

  given_shows : (places : List Place) → EachPlace (Gives (λ request. Unit {0}) s) places
  given_shows [] = tt
  given_shows (p ∷ ps) = ((λ request is. tt), given_shows ps)

  pub cut_shows : (places : List Place) (request : Request) → EveryRun (WhenOk Is) (cut_at s (size_of x) x.digest places request)
  cut_shows places request = cut_at_law (WhenOk Is) (λ request. Unit {0}) s (size_of x) x.digest (λ request good. blob_run request) later_where places (given_shows places) (unasked_shows places) request tt

pub with_shows : (s : Settings) (image : Reference) (registry : Parts) (token : Option RegistryTokenType) (x : OciDescriptor) → EveryRun (WhenOk (λ m c n bytes. IsBlobOf c x bytes)) (blob_with s image registry token x)
unfolding blob_with
with_shows s image registry token x = EveryRun-step (WhenOk (λ m c n bytes. IsBlobOf c x bytes)) (url_read (blob_text s image x.digest)) (λ url. Done (request_of s Get url (Some manifest_types) (sent_token registry token url)) >>= λ request. cut_at s (size_of x) x.digest (places_of (described x).urls) request)
    (λ url is. EveryRun-step (WhenOk (λ m c n bytes. IsBlobOf c x bytes)) (request_of s Get url (Some manifest_types) (sent_token registry token url)) (λ request. cut_at s (size_of x) x.digest (places_of (described x).urls) request)
    (λ request is. cut_shows s x (places_of (described x).urls) request) (λ e is m. tt))
    (λ e is m. tt)

pub with_took : (s : Settings) (image : Reference) (registry : Parts) (token : Option RegistryTokenType) (x : OciDescriptor) {old new : Link} {k l : AuthState} {r : Result (List ℕ) OciDistributionError} → Meets is_memory (blob_with s image registry token x) old new k l r → IfOk r (λ bytes. Told (λ c. IsBlobOf c x bytes) old new)
with_took s image registry token x met = Meets-shows-ok (λ m c n bytes. IsBlobOf c x bytes) (with_shows s image registry token x) met
