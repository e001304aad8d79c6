-- One request for a blob that is cut at its size, each outcome.
use Rattle.std.proofs.Common.{◌≡◌, ◌≤◌, ℕ, Bool, true, false, List, [], ◌∷◌, ◌++◌, Option, Some, None, Result, Ok, Err, length, refl, sym, ap, ◌∙◌, append-nil}
use Rattle.std.specs.Prelude.{MatchBool, if◌then◌else◌}
use Rattle.std.specs.Result.{IsErrAnd}
use Rattle.std.proofs.lemmas.Result.{err_from_is_err_and}
use Rattle.json_values.specs.Counts.{Increased}
use Rattle.byte_streams.specs.SinkState.{SinkState}
use Rattle.oci_transport.specs.Link.{Link, Steady, answer_of, EndsUnbroken, TakesPast}
use Rattle.oci_transport.specs.declared.message.Request.{Request}
use Rattle.oci_transport.specs.declared.message.AnswerHead.{AnswerHead}
use Rattle.oci_transport.specs.declared.message.Exchange.{Exchange}
use Rattle.oci_transport.specs.Headers.{first_of, digest_header}
use Rattle.oci_auth.specs.declared.auth_state.AuthState.{AuthState}
use Rattle.oci_digests.specs.declared.both.Digesters.{Digesters}
use Rattle.oci_digests.specs.Both.{BothHold}
use Rattle.oci_digests.specs.Checks.{header_digest as digest_in, and_then as digest_and_then}
use Rattle.oci_digests.specs.declared.error.DigestError.{DigestError}
use Rattle.oci_protocol.specs.Proto.{Reading, Unread, Piped, Headed, limit_of, Done}
use Rattle.oci_protocol.specs.Follow.{Reaches, Misses, Cuts}
use Rattle.oci_protocol.specs.StreamedBody.{StreamsBody}
use Rattle.oci_protocol.specs.Runs.{Meets}
use Rattle.oci_protocol.proofs.Laws.{Meets-err}
use Rattle.oci_protocol.proofs.Conversations.{Extends-more}
use Rattle.oci_protocol.proofs.RedirectSteps.{reached_headed, reached_answered, reached_long, reached_failed, reached_spilled, reached_cut, missed, cut as cut_off}
use Rattle.engine_terms.specs.declared.settings.Settings.{Settings}
use Rattle.engine_terms.specs.declared.error.OciDistributionError.{OciDistributionError}
use Rattle.engine_terms.specs.declared.error.OciDistributionError.TheVariants as refusal
use Rattle.engine_answers.specs.declared.blobs.Expected.{Expected}
use Rattle.engine_answers.specs.declared.blobs.Plan.{Plan}
use Rattle.engine_answers.specs.declared.blobs.Plan.TheVariants as plan
use Rattle.json_values.specs.Refusals.{Matches, MatchesError, ◌>>◌}
use Rattle.engine_terms.specs.Error.{is_memory}
use Rattle.engine_answers.specs.Answers.{refused_answer, is_success, is_error}
use Rattle.engine_answers.specs.Blobs.{digest_expected, given_expected, pouring, plan_by, planned, plan_of, compared, given_compared, both_compared, given_algorithm}
use Rattle.engine_rows.specs.Rows.{Row}
use Rattle.engine_rows.specs.Blobs.{IntoSink, reading_by, blob_reading, unread_by, read_by, blob_reply, MeetsIntoSink}
use Rattle.oci_protocol.proofs.Exits.{said}
use Rattle.engine_pull.proofs.AttemptSteps.{pours_success, spills_none, front_told}
use Rattle.image_blobs.proofs.SinkCalm.{answer_never, compared_never, later_front}
use Rattle.call_laws.specs.Cut.{most, instead, unread_before, or_row, cut_reading, cut_reply, cut}

-- ---- a body that is read for its status is not that of a blob

not_chosen : (b : Bool) (x : Option Expected) (y : Expected) → pouring b x y ≡ plan.Judge → b ≡ false
not_chosen true x y h = absurd (cc h)
not_chosen false x y h = refl

not_own : (b : Bool) (x : Option Expected) (r : Result Expected DigestError) → planned (digest_and_then r (λ y. Ok (pouring b x y))) ≡ plan.Judge → b ≡ false
not_own b x (Ok y) h = not_chosen b x y h
not_own b x (Err e) h = absurd (cc h)

not_given : (b : Bool) (digest : List ℕ) (r : Result (Option Expected) DigestError) → planned (digest_and_then r (λ x. digest_and_then (digest_expected digest) (λ y. Ok (pouring b x y)))) ≡ plan.Judge → b ≡ false
not_given b digest (Ok x) h = not_own b x (digest_expected digest) h
not_given b digest (Err e) h = absurd (cc h)

not_header : (b : Bool) (digest : List ℕ) (r : Result (Option (List ℕ)) DigestError) → planned (digest_and_then r (plan_by b digest)) ≡ plan.Judge → b ≡ false
not_header b digest (Ok header) h = not_given b digest (given_expected header) h
not_header b digest (Err e) h = absurd (cc h)

judges_other : (digest : List ℕ) (head : AnswerHead) → plan_of digest head ≡ plan.Judge → is_success head.status ≡ false
unfolding plan_of
judges_other digest head h = not_header (is_success head.status) digest (digest_in (first_of digest_header head.headers)) h

most_blob : (s : Settings) (size : ℕ) (head : AnswerHead) → is_success head.status ≡ true → most s size head ≡ size
most_blob s size head good = ap (λ (b : Bool). if b then size else s.max_body_bytes) good

most_other : (s : Settings) (size : ℕ) (head : AnswerHead) → is_success head.status ≡ false → most s size head ≡ s.max_body_bytes
most_other s size head other = ap (λ (b : Bool). if b then size else s.max_body_bytes) other

-- the limit of a body that is read by this plan
abbrev pub limit_by : Settings → ℕ → Plan → ℕ
limit_by s size (plan.Refuse e) = size
limit_by s size plan.Judge = s.max_body_bytes
limit_by s size (plan.Pour given own) = size

-- ---- each exit

module _ (s : Settings) (size : ℕ) (digest : List ℕ) (next : Option (Row (List ℕ))) (request : Request) where
  reads_by : (head : AnswerHead) (p : Plan) (n : ℕ) → instead next head ≡ None → plan_of digest head ≡ p → most s size head ≡ n → cut_reading s size digest next head ≡ reading_by IntoSink n p
  unfolding cut_reading blob_reading
  reads_by head p n here is limit = ap (λ (o : Option (Row (List ℕ))). unread_before o (reading_by IntoSink (most s size head) (plan_of digest head))) here ∙ (ap (λ (q : Plan). reading_by IntoSink (most s size head) q) is ∙ ap (λ (m : ℕ). reading_by IntoSink m p) limit)

  reads_judged : (head : AnswerHead) → instead next head ≡ None → plan_of digest head ≡ plan.Judge → limit_of (cut_reading s size digest next head) ≡ Some s.max_body_bytes
  reads_judged head here is = ap limit_of (reads_by head plan.Judge s.max_body_bytes here is (most_other s size head (judges_other digest head is)))

  reads_poured : (head : AnswerHead) (given : Option Expected) (own : Expected) → instead next head ≡ None → plan_of digest head ≡ plan.Pour given own → cut_reading s size digest next head ≡ Piped size
  reads_poured head given own here is = reads_by head (plan.Pour given own) size here is (most_blob s size head (pours_success digest head given own is))

  headed_here : (head : AnswerHead) (last : Request) {old new : Link} {k l : AuthState} {r : Result (List ℕ) OciDistributionError} → instead next head ≡ None → Meets is_memory (blob_reply digest last (Headed head)) old new k l r → Meets is_memory (cut_reply digest next last (Headed head)) old new k l r
  headed_here head last here met = rw (ap (λ (o : Option (Row (List ℕ))). or_row o (blob_reply digest last (Headed head))) here) met

  read_met : (url : List ℕ) (head : AnswerHead) (body : List ℕ) (p q : Plan) (r : Result (List ℕ) OciDistributionError) (link : Link) (k : AuthState) → p ≡ q → Matches is_memory r (read_by url (answer_of head body) q) → Meets is_memory (Done (read_by url (answer_of head body) p)) link link k k r
  read_met url head body p q r link k is says = said r (rw is says)

  unread_met : (p q : Plan) (r : Result (List ℕ) OciDistributionError) (link : Link) (k : AuthState) → p ≡ q → Matches is_memory r (unread_by q) → Meets is_memory (Done (unread_by p)) link link k k r
  unread_met p q r link k is says = said r (rw is says)

  pub cut_missed : (old new : Link) (k : AuthState) → Misses 10 request old new → Meets is_memory (cut s size digest next request) old new k k (Err refusal.TransportFault)
  unfolding cut
  cut_missed old new k m = missed 10 request (cut_reading s size digest next) (cut_reply digest next) m (λ last. Meets-err is_memory new k refusal.TransportFault refl)

  pub cut_unsent : (old new : Link) (k : AuthState) → Cuts 10 request old new → Meets is_memory (cut s size digest next request) old new k k (Err refusal.WantOfMemory)
  unfolding cut
  cut_unsent old new k c = cut_off is_memory 10 request (cut_reading s size digest next) (cut_reply digest next) k refusal.WantOfMemory c refl

  pub cut_wanting : (head : AnswerHead) (last : Request) (old mid new : Link) (k : AuthState) (e : OciDistributionError) → Reaches 10 request head last old mid → mid.faults ≤ new.faults → new.told ≡ mid.told → Steady mid new → is_memory e ≡ true → Meets is_memory (cut s size digest next request) old new k k (Err e)
  unfolding cut
  cut_wanting head last old mid new k e reach le same steady is = reached_cut is_memory 10 request (cut_reading s size digest next) (cut_reply digest next) head last k e reach le same steady is

  -- the response is not read, for this cause
  pub cut_unread : (head : AnswerHead) (last : Request) (old new : Link) (k : AuthState) (e : DigestError) → instead next head ≡ None → Reaches 10 request head last old new → plan_of digest head ≡ plan.Refuse e → Meets is_memory (cut s size digest next request) old new k k (Err (refusal.DigestError e))
  unfolding cut
  cut_unread head last old new k e here reach is = reached_headed 10 request (cut_reading s size digest next) (cut_reply digest next) head last reach (reads_by head (plan.Refuse e) (most s size head) here is refl) (headed_here head last here (unread_met (plan_of digest head) (plan.Refuse e) (Err (refusal.DigestError e)) new k is refl))

  cut_read : (head : AnswerHead) (last : Request) (body : List ℕ) (old mid new : Link) (k : AuthState) (p : Plan) (limit : ℕ) (r : Result (List ℕ) OciDistributionError) → Reaches 10 request head last old mid → plan_of digest head ≡ p → limit_of (cut_reading s size digest next head) ≡ Some limit → mid.faults ≤ new.faults → new.told ≡ mid.told → Steady mid new → length body ≤ limit → ((rest : List ℕ) → mid.rest ≡ Some rest → body ≡ rest) → EndsUnbroken mid new → Matches is_memory r (read_by last.url (answer_of head body) p) → Meets is_memory (cut s size digest next request) old new k k r
  unfolding cut
  cut_read head last body old mid new k p limit r reach is reads le same steady small whole unbroken says = reached_answered 10 request (cut_reading s size digest next) (cut_reply digest next) head last limit body reach reads le same steady small whole unbroken (read_met last.url head body (plan_of digest head) p r new k is says)

  pub cut_long : (head : AnswerHead) (last : Request) (old mid new : Link) (k : AuthState) (limit : ℕ) → Reaches 10 request head last old mid → limit_of (cut_reading s size digest next head) ≡ Some limit → mid.faults ≤ new.faults → new.told ≡ mid.told → Steady mid new → TakesPast limit mid new → Meets is_memory (cut s size digest next request) old new k k (Err refusal.BodyTooLong)
  unfolding cut
  cut_long head last old mid new k limit reach reads le same steady long = reached_long 10 request (cut_reading s size digest next) (cut_reply digest next) head last limit reach reads le same steady long (Meets-err is_memory new k refusal.BodyTooLong refl)

  pub cut_failed : (head : AnswerHead) (last : Request) (old mid new : Link) (k : AuthState) (limit : ℕ) → Reaches 10 request head last old mid → limit_of (cut_reading s size digest next head) ≡ Some limit → mid.faults ≤ new.faults → new.told ≡ mid.told → Steady mid new → Increased mid.faults new.faults → Meets is_memory (cut s size digest next request) old new k k (Err refusal.TransportFault)
  unfolding cut
  cut_failed head last old mid new k limit reach reads le same steady rose = reached_failed 10 request (cut_reading s size digest next) (cut_reply digest next) head last limit reach reads le same steady rose (Meets-err is_memory new k refusal.TransportFault refl)

  pub cut_spilled : (head : AnswerHead) (last : Request) (old mid new : Link) (k : AuthState) (given : Option Expected) (own : Expected) → instead next head ≡ None → Reaches 10 request head last old mid → plan_of digest head ≡ plan.Pour given own → mid.faults ≤ new.faults → new.told ≡ mid.told → Steady mid new → Meets is_memory (cut s size digest next request) old new k k (Err refusal.SinkFault)
  unfolding cut
  cut_spilled head last old mid new k given own here reach is le same steady = reached_spilled 10 request (cut_reading s size digest next) (cut_reply digest next) head last size reach (reads_poured head given own here is) le same steady (Meets-err is_memory new k refusal.SinkFault refl)

  -- the limits of a body that is read
  pub judged_limit : (head : AnswerHead) → instead next head ≡ None → plan_of digest head ≡ plan.Judge → limit_of (cut_reading s size digest next head) ≡ Some s.max_body_bytes
  judged_limit head here is = reads_judged head here is

  pub poured_limit : (head : AnswerHead) (given : Option Expected) (own : Expected) → instead next head ≡ None → plan_of digest head ≡ plan.Pour given own → limit_of (cut_reading s size digest next head) ≡ Some size
  poured_limit head given own here is = ap limit_of (reads_poured head given own here is)

  -- ---- a response with another status

  pub cut_judged : (head : AnswerHead) (last : Request) (body : List ℕ) (old mid new : Link) (k : AuthState) (sink : SinkState) (e : OciDistributionError) → instead next head ≡ None → Reaches 10 request head last old mid → plan_of digest head ≡ plan.Judge → mid.faults ≤ new.faults → new.told ≡ mid.told → Steady mid new → length body ≤ s.max_body_bytes → ((rest : List ℕ) → mid.rest ≡ Some rest → body ≡ rest) → EndsUnbroken mid new → MatchesError is_memory e (refused_answer 200 last.url (answer_of head body)) → MeetsIntoSink (cut s size digest next request) old new k k sink sink (Err e)
  cut_judged head last body old mid new k sink e here reach is le same steady small whole unbroken says = by_memory (is_memory e) refl says where
    by_memory : (b : Bool) → is_memory e ≡ b → MatchBool b (Unit {0}) (e ≡ refused_answer 200 last.url (answer_of head body)) → MeetsIntoSink (cut s size digest next request) old new k k sink sink (Err e)
    by_memory true of_memory says = spills_none sink (cut_wanting head last old mid new k e reach le same steady of_memory) (λ h. let is : e ≡ refusal.SinkFault = cc in absurd (cc (rw is at of_memory)))
    by_memory false other says = spills_none sink (cut_read head last body old mid new k plan.Judge s.max_body_bytes (Err e) reach is (reads_judged head here is) le same steady small whole unbroken (rw other (ap Err (sym says)))) (λ h. let is : e ≡ refusal.SinkFault = cc in absurd (answer_never last.url (answer_of head body) (sym says ∙ is)))

  -- ---- a body that was written whole

  filled_says : (body : List ℕ) (x : Result Unit OciDistributionError) → x ≡ Ok tt → (x >> Ok body) ≡ Ok body
  filled_says body x is = rw is refl

  refused_says : (body : List ℕ) (e : OciDistributionError) (x : Result Unit OciDistributionError) → Matches {A = Unit} is_memory (Err e) x → Matches {A = List ℕ} is_memory (Err e) (x >> Ok body)
  refused_says body e x h = by_memory (is_memory e) h where
    by_memory : (b : Bool) → MatchBool b (Unit {0}) (x ≡ Err e) → MatchBool b (Unit {0}) ((x >> Ok body) ≡ Err e)
    by_memory true h = tt
    by_memory false h = rw h refl

  -- it has its digests
  pub cut_whole : (head : AnswerHead) (last : Request) (old mid new : Link) (k : AuthState) (before after : SinkState) (from to : Digesters) (given : Option Expected) (own : Expected)
      → instead next head ≡ None → Reaches 10 request head last old mid → plan_of digest head ≡ plan.Pour given own → mid.faults ≤ new.faults → new.told ≡ mid.told → Steady mid new → before.faults ≤ after.faults → StreamsBody size from to mid new before after → BothHold from (given_algorithm given) own.algorithm []
      → ((m : List ℕ) → BothHold to (given_algorithm given) own.algorithm m → both_compared given own m ≡ Ok tt)
      → MeetsIntoSink (cut s size digest next request) old new k k before after (Ok tt)
  cut_whole head last old mid new k before after from to given own here reach is le same steady count pours fresh good = record {
    body = pours.body;
    met = cut_read head last pours.body old mid new k (plan.Pour given own) size (Ok pours.body) reach is (poured_limit head given own here is) le same steady pours.small pours.whole pours.unbroken (filled_says pours.body _ (good pours.body (pours.hashed (given_algorithm given) own.algorithm fresh)));
    put = pours.put;
    front = front_told 10 request head last old mid new pours.body reach (pours_success digest head given own is) same steady (λ rest h. ([], sym (pours.whole rest h) ∙ sym (append-nil pours.body)));
    count = count;
    fault = λ h. cc;
  }

  not_sink : (e : OciDistributionError) (x : Result Unit OciDistributionError) (P : Type 0) → (x ≡ Err refusal.SinkFault → ⊥) → Matches {A = Unit} is_memory (Err e) x → ◌≡◌ {A = Result Unit OciDistributionError} (Err e) (Err refusal.SinkFault) → P
  not_sink e x P never says h = let is : e ≡ refusal.SinkFault = cc in absurd (never (rw is at says))

  -- it does not have its digests
  pub cut_other : (head : AnswerHead) (last : Request) (old mid new : Link) (k : AuthState) (before after : SinkState) (from to : Digesters) (given : Option Expected) (own : Expected) (e : OciDistributionError) (r : Result Unit OciDistributionError)
      → instead next head ≡ None → Reaches 10 request head last old mid → plan_of digest head ≡ plan.Pour given own → mid.faults ≤ new.faults → new.told ≡ mid.told → Steady mid new → before.faults ≤ after.faults → StreamsBody size from to mid new before after → BothHold from (given_algorithm given) own.algorithm []
      → ((m : List ℕ) → BothHold to (given_algorithm given) own.algorithm m → Matches {A = Unit} is_memory (Err e) (both_compared given own m)) → IsErrAnd r (λ x. x ≡ e)
      → MeetsIntoSink (cut s size digest next request) old new k k before after r
  cut_other head last old mid new k before after from to given own e r here reach is le same steady count pours fresh bad from_is = let at = err_from_is_err_and r from_is in rw (at.1, at.2) (record {
    body = pours.body;
    met = cut_read head last pours.body old mid new k (plan.Pour given own) size (Err e) reach is (poured_limit head given own here is) le same steady pours.small pours.whole pours.unbroken (refused_says pours.body e _ (bad pours.body (pours.hashed (given_algorithm given) own.algorithm fresh)));
    put = pours.put;
    front = front_told 10 request head last old mid new pours.body reach (pours_success digest head given own is) same steady (λ rest h. ([], sym (pours.whole rest h) ∙ sym (append-nil pours.body)));
    count = count;
    fault = not_sink e (both_compared given own pours.body) (Increased before.faults after.faults) (compared_never given own pours.body) (bad pours.body (pours.hashed (given_algorithm given) own.algorithm fresh));
  })

-- ---- an offer whose response has a 4xx or 5xx status, and what comes next

instead_of : (next : Row (List ℕ)) (head : AnswerHead) → is_error head.status ≡ true → instead (Some next) head ≡ Some next
instead_of next head bad = ap (λ (b : Bool). if b then Some next else None) bad

pub not_instead : (next : Row (List ℕ)) (head : AnswerHead) → is_error head.status ≡ false → instead (Some next) head ≡ None
not_instead next head good = ap (λ (b : Bool). if b then Some next else None) good

module _ (s : Settings) (size : ℕ) (digest : List ℕ) (next : Row (List ℕ)) (request : Request) where
  passed_reading : (head : AnswerHead) → is_error head.status ≡ true → cut_reading s size digest (Some next) head ≡ Unread
  unfolding cut_reading
  passed_reading head bad = ap (λ (o : Option (Row (List ℕ))). unread_before o (blob_reading IntoSink (most s size head) digest head)) (instead_of next head bad)

  passed_met : (head : AnswerHead) (last : Request) (old new end : Link) (k l : AuthState) (r : Result (List ℕ) OciDistributionError) → Reaches 10 request head last old new → is_error head.status ≡ true → Meets is_memory next new end k l r → Meets is_memory (cut s size digest (Some next) request) old end k l r
  unfolding cut
  passed_met head last old new end k l r reach bad rest = reached_headed 10 request (cut_reading s size digest (Some next)) (cut_reply digest (Some next)) head last reach (passed_reading head bad) (rw (ap (λ (o : Option (Row (List ℕ))). or_row o (blob_reply digest last (Headed head))) (instead_of next head bad)) rest)

  pub cut_passed : (head : AnswerHead) (last : Request) (old new end : Link) (k l : AuthState) (before later : SinkState) (r : Result Unit OciDistributionError) → Reaches 10 request head last old new → is_error head.status ≡ true → MeetsIntoSink next new end k l before later r → MeetsIntoSink (cut s size digest (Some next) request) old end k l before later r
  cut_passed head last old new end k l before later r reach bad rest = record {
    body = rest.body;
    met = passed_met head last old new end k l _ reach bad rest.met;
    put = rest.put;
    front = record {
      conversation = (reach.follows.conversation ++ exchange ∷ []) ++ rest.front.conversation;
      told = Extends-more old new end (reach.follows.conversation ++ exchange ∷ []) rest.front.conversation (Extends-more old reach.mid new reach.follows.conversation (exchange ∷ []) reach.follows.told reach.sent.added) rest.front.told;
      holds = later_front rest.body (reach.follows.conversation ++ exchange ∷ []) rest.front.conversation rest.front.holds;
    };
    count = rest.count;
    fault = rest.fault;
  } where
    exchange : Exchange
    exchange = record { request = last; answer = Some (answer_of head reach.sent.body); faults = reach.mid.faults }
