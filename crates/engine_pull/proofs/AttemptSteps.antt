-- One request for a blob, each outcome.
use Rattle.std.proofs.Common.{◌≡◌, ◌≤◌, ◌<◌, inl, inr, ℕ, Bool, true, false, List, [], ◌∷◌, ◌++◌, Option, Some, None, Result, Ok, Err, length, refl, sym, ap, ◌∙◌, append_assoc, append-nil, arith}
use Rattle.std.specs.Prelude.{MatchBool, bytes_eq, nat_eq, if◌then◌else◌}
use Rattle.std.specs.Result.{IsErrAnd}
use Rattle.std.proofs.lemmas.Result.{err_from_is_err_and}
use Rattle.json_values.specs.Counts.{Increased}
use Rattle.byte_streams.specs.SinkState.{SinkState}
use Rattle.byte_streams.proofs.Sinks.{adds_none}
use Rattle.oci_transport.specs.Link.{Link, Extends, Steady, answer_of, EndsUnbroken, TakesPast}
use Rattle.oci_transport.specs.declared.message.Request.{Request}
use Rattle.oci_transport.specs.declared.message.Answer.{Answer}
use Rattle.oci_transport.specs.declared.message.AnswerHead.{AnswerHead}
use Rattle.oci_transport.specs.declared.message.Exchange.{Exchange}
use Rattle.oci_auth.specs.declared.auth_state.AuthState.{AuthState}
use Rattle.oci_digests.specs.declared.both.Digesters.{Digesters}
use Rattle.oci_digests.specs.Both.{BothHold}
use Rattle.oci_digests.specs.Names.{digest_text}
use Rattle.oci_digests.specs.declared.error.DigestError.{DigestError}
use Rattle.oci_protocol.specs.Proto.{Unread, Headed, limit_of, Done, ◌>>=◌}
use Rattle.oci_protocol.specs.Follow.{Reaches, Misses, Cuts}
use Rattle.oci_protocol.specs.StreamedBody.{StreamsBody, StreamsPrefix}
use Rattle.oci_protocol.specs.Runs.{Meets, Told, Performs, PerformsPrefix, Outcome}
use Rattle.oci_protocol.proofs.Laws.{Meets-err}
use Rattle.oci_protocol.proofs.Conversations.{Extends-more, Extends-still, Extends-untold, Steady-none, Steady-more}
use Rattle.oci_protocol.proofs.RedirectSteps.{reached_headed, reached_answered, reached_long, reached_failed, reached_spilled, reached_cut, missed, cut}
use Rattle.engine_terms.specs.declared.error.OciDistributionError.{OciDistributionError}
use Rattle.engine_terms.specs.declared.error.OciDistributionError.TheVariants as refusal
use Rattle.oci_errors.specs.declared.envelope.OciEnvelope.{OciEnvelope}
use Rattle.engine_terms.specs.declared.error.SpecViolation.TheVariants.{Status}
use Rattle.oci_digests.specs.declared.error.DigestError.TheVariants.{VerificationError}
use Rattle.engine_answers.specs.declared.blobs.Expected.{Expected}
use Rattle.engine_answers.specs.declared.blobs.Plan.{Plan}
use Rattle.engine_answers.specs.declared.blobs.Plan.TheVariants as plan
use Rattle.json_values.specs.Refusals.{Matches, MatchesError, ◌>>◌}
use Rattle.engine_terms.specs.Error.{is_memory}
use Rattle.engine_answers.specs.Answers.{refused_answer, is_success, is_error, is_client_error, by_envelope, envelope_in}
use Rattle.oci_digests.specs.Checks.{header_digest as digest_in, and_then as digest_and_then}
use Rattle.oci_transport.specs.Headers.{first_of, digest_header}
use Rattle.engine_answers.specs.Blobs.{digest_expected, given_expected, pouring, plan_by, planned, plan_of, compared, given_compared, both_compared, given_algorithm}
use Rattle.engine_rows.specs.Rows.{Row}
use Rattle.engine_rows.specs.Blobs.{Destination, IntoSink, IntoMemory, reading_into, reading_by, blob_reading, unread_by, read_by, blob_reply, attempt, IsPrefixOfLast, IsPrefix, filled, MeetsIntoSink}
use Rattle.engine_rows.specs.Offers.{offer_reading, offer_reply, offer, Takes, Offered, OfferedInto}
use Rattle.oci_protocol.proofs.Exits.{said, and_then}
use Rattle.engine_rows.proofs.Exits.{meets_told}

abbrev IsSinkFault : OciDistributionError → Type 0
IsSinkFault e = ◌≡◌ {A = Result Unit OciDistributionError} (Err e) (Err refusal.SinkFault)

pub fault_is_none : (P : Type 0) → IsSinkFault refusal.TransportFault → P
fault_is_none P h = cc

pub long_is_none : (P : Type 0) → IsSinkFault refusal.BodyTooLong → P
long_is_none P h = cc

pub memory_is_none : (P : Type 0) → IsSinkFault refusal.WantOfMemory → P
memory_is_none P h = cc

pub digest_is_none : (P : Type 0) (e : DigestError) → IsSinkFault (refusal.DigestError e) → P
digest_is_none P e h = cc

-- a refusal with nothing written; it is not a fault of the sink
pub spills_none : {p : Row (List ℕ)} {old new : Link} {k l : AuthState} {e : OciDistributionError} (sink : SinkState) → Meets is_memory p old new k l (Err e) → (◌≡◌ {A = Result Unit OciDistributionError} (Err e) (Err refusal.SinkFault) → Increased sink.faults sink.faults) → MeetsIntoSink p old new k l sink sink (Err e)
spills_none sink met fault = record { body = []; met = met; put = adds_none sink sink refl; front = meets_told (IsPrefix []) (λ c. inl refl) met; count = omega arith; fault = fault }

-- memory ran out, with nothing written
pub spills_wanting : {p : Row (List ℕ)} {old new : Link} {k l : AuthState} (sink : SinkState) (r : Result Unit OciDistributionError) → IsErrAnd r (λ x. x ≡ refusal.WantOfMemory) → Meets is_memory p old new k l (Err refusal.WantOfMemory) → MeetsIntoSink p old new k l sink sink r
spills_wanting sink r is met = let at = err_from_is_err_and r is in rw (at.1, at.2) (spills_none sink met (λ h. cc))

-- only a response with a 2xx status is written to the sink
chosen : (b : Bool) (x : Option Expected) (y : Expected) (given : Option Expected) (own : Expected) → pouring b x y ≡ plan.Pour given own → b ≡ true
chosen true x y given own h = refl
chosen false x y given own h = absurd (cc h)

own_chosen : (b : Bool) (x : Option Expected) (r : Result Expected DigestError) (given : Option Expected) (own : Expected) → planned (digest_and_then r (λ y. Ok (pouring b x y))) ≡ plan.Pour given own → b ≡ true
own_chosen b x (Ok y) given own h = chosen b x y given own h
own_chosen b x (Err e) given own h = absurd (cc h)

given_chosen : (b : Bool) (digest : List ℕ) (r : Result (Option Expected) DigestError) (given : Option Expected) (own : Expected) → planned (digest_and_then r (λ x. digest_and_then (digest_expected digest) (λ y. Ok (pouring b x y)))) ≡ plan.Pour given own → b ≡ true
given_chosen b digest (Ok x) given own h = own_chosen b x (digest_expected digest) given own h
given_chosen b digest (Err e) given own h = absurd (cc h)

header_chosen : (b : Bool) (digest : List ℕ) (r : Result (Option (List ℕ)) DigestError) (given : Option Expected) (own : Expected) → planned (digest_and_then r (plan_by b digest)) ≡ plan.Pour given own → b ≡ true
header_chosen b digest (Ok header) given own h = given_chosen b digest (given_expected header) given own h
header_chosen b digest (Err e) given own h = absurd (cc h)

pub pours_success : (digest : List ℕ) (head : AnswerHead) (given : Option Expected) (own : Expected) → plan_of digest head ≡ plan.Pour given own → is_success head.status ≡ true
unfolding plan_of
pours_success digest head given own h = header_chosen (is_success head.status) digest (digest_in (first_of digest_header head.headers)) given own h

-- a prefix of the last response's body is exposed
pub front_told : (n : ℕ) (request : Request) (head : AnswerHead) (last : Request) (old mid new : Link) (front : List ℕ) → Reaches n request head last old mid → is_success head.status ≡ true → new.told ≡ mid.told → Steady mid new → ((rest : List ℕ) → mid.rest ≡ Some rest → (left : List ℕ) × (rest ≡ front ++ left)) → Told (IsPrefix front) old new
front_told n request head last old mid new front reach good same steady part = by_told reach.mid.told refl where
  tells : (body left : List ℕ) → body ≡ front ++ left → Extends reach.mid new (record { request = last; answer = Some (answer_of head body); faults = reach.mid.faults } ∷ []) → Told (IsPrefix front) old new
  tells body left is told = record {
    conversation = reach.follows.conversation ++ record { request = last; answer = Some (answer_of head body); faults = reach.mid.faults } ∷ [];
    told = Extends-more old reach.mid new reach.follows.conversation _ reach.follows.told told;
    holds = inr (record {
      before = reach.follows.conversation;
      last = record { request = last; answer = Some (answer_of head body); faults = reach.mid.faults };
      split = refl;
      answer = answer_of head body;
      answered = refl;
      success = good;
      left = left;
      body = is;
    });
  }

  by_told : (t : Option (List Exchange)) → reach.mid.told ≡ t → Told (IsPrefix front) old new
  by_told None none = tells front [] (sym (append-nil front)) (Extends-untold reach.mid new _ none (Steady-more reach.mid mid new reach.sent.added.stays steady))
  by_told (Some before) h = let at = part reach.sent.body (reach.sent.rest before h) in tells reach.sent.body at.0 at.1 (Extends-still reach.mid mid new _ reach.sent.added same steady)

-- ---- an offer whose response has no 4xx or 5xx status

not_chosen : {A : Type 0} (b : Bool) (x y : A) → b ≡ false → (if b then x else y) ≡ y
not_chosen true x y h = absurd (cc h)
not_chosen false x y h = refl

offered_reading : (to : Destination) (limit : ℕ) (digest : List ℕ) (head : AnswerHead) → is_error head.status ≡ false → offer_reading to limit digest head ≡ blob_reading to limit digest head
unfolding offer_reading
offered_reading to limit digest head good = not_chosen (is_error head.status) Unread (blob_reading to limit digest head) good

offered_headed : (digest : List ℕ) (next : Row (List ℕ)) (head : AnswerHead) (last : Request) {old new : Link} {k l : AuthState} {r : Result (List ℕ) OciDistributionError} → is_error head.status ≡ false → Meets is_memory (blob_reply digest last (Headed head)) old new k l r → Meets is_memory (offer_reply digest next last (Headed head)) old new k l r
offered_headed digest next head last good met = rw (not_chosen (is_error head.status) next (blob_reply digest last (Headed head)) good) met

-- ---- each exit

pub blob_missed : (to : Destination) (limit : ℕ) (digest : List ℕ) (request : Request) (old new : Link) (k : AuthState) → Misses 10 request old new → Meets is_memory (attempt to limit digest request) old new k k (Err refusal.TransportFault)
unfolding attempt
blob_missed to limit digest request old new k m = missed 10 request (blob_reading to limit digest) (blob_reply digest) m (λ last. Meets-err is_memory new k refusal.TransportFault refl)

pub blob_cut : (to : Destination) (limit : ℕ) (digest : List ℕ) (request : Request) (old new : Link) (k : AuthState) → Cuts 10 request old new → Meets is_memory (attempt to limit digest request) old new k k (Err refusal.WantOfMemory)
unfolding attempt
blob_cut to limit digest request old new k c = cut is_memory 10 request (blob_reading to limit digest) (blob_reply digest) k refusal.WantOfMemory c refl

pub blob_wanting : (to : Destination) (limit : ℕ) (digest : List ℕ) (request : Request) (head : AnswerHead) (last : Request) (old mid new : Link) (k : AuthState) (e : OciDistributionError) → {row : Row (List ℕ)} → Takes to limit digest request head row → Reaches 10 request head last old mid → mid.faults ≤ new.faults → new.told ≡ mid.told → Steady mid new → is_memory e ≡ true → Meets is_memory row old new k k (Err e)
unfolding attempt offer
blob_wanting to limit digest request head last old mid new k e (inl row) reach le same steady is = rw row (reached_cut is_memory 10 request (blob_reading to limit digest) (blob_reply digest) head last k e reach le same steady is)
blob_wanting to limit digest request head last old mid new k e (inr offered) reach le same steady is = rw offered.2 (reached_cut is_memory 10 request (offer_reading to limit digest) (offer_reply digest offered.1) head last k e reach le same steady is)

unread_met : (p q : Plan) (r : Result (List ℕ) OciDistributionError) (link : Link) (k : AuthState) → p ≡ q → Matches is_memory r (unread_by q) → Meets is_memory (Done (unread_by p)) link link k k r
unread_met p q r link k is says = said r (rw is says)

-- the response is not read, for this cause
pub blob_unread : (to : Destination) (limit : ℕ) (digest : List ℕ) (request : Request) (head : AnswerHead) (last : Request) (old new : Link) (k : AuthState) (e : DigestError) → {row : Row (List ℕ)} → Takes to limit digest request head row → Reaches 10 request head last old new → plan_of digest head ≡ plan.Refuse e → Meets is_memory row old new k k (Err (refusal.DigestError e))
unfolding attempt offer blob_reading
blob_unread to limit digest request head last old new k e (inl row) reach is = rw row (reached_headed 10 request (blob_reading to limit digest) (blob_reply digest) head last reach (ap (reading_by to limit) is) (unread_met (plan_of digest head) (plan.Refuse e) (Err (refusal.DigestError e)) new k is refl))
blob_unread to limit digest request head last old new k e (inr offered) reach is = rw offered.2 (reached_headed 10 request (offer_reading to limit digest) (offer_reply digest offered.1) head last reach (offered_reading to limit digest head offered.0 ∙ ap (reading_by to limit) is) (offered_headed digest offered.1 head last offered.0 (unread_met (plan_of digest head) (plan.Refuse e) (Err (refusal.DigestError e)) new k is refl)))

-- a plan that reads the body does not refuse it
pub judged_not : {P : Type 0} {p : Plan} {e : DigestError} → p ≡ plan.Judge → p ≡ plan.Refuse e → P
judged_not judged refused = absurd (cc (judged, refused))

pub poured_not : {P : Type 0} {p : Plan} {given : Option Expected} {own : Expected} {e : DigestError} → p ≡ plan.Pour given own → p ≡ plan.Refuse e → P
poured_not poured refused = absurd (cc (poured, refused))

read_met : (url : List ℕ) (head : AnswerHead) (body : List ℕ) (p q : Plan) (r : Result (List ℕ) OciDistributionError) (link : Link) (k : AuthState) → p ≡ q → Matches is_memory r (read_by url (answer_of head body) q) → Meets is_memory (Done (read_by url (answer_of head body) p)) link link k k r
read_met url head body p q r link k is says = said r (rw is says)

pub blob_read : (to : Destination) (limit : ℕ) (digest : List ℕ) (request : Request) (head : AnswerHead) (last : Request) (body : List ℕ) (old mid new : Link) (k : AuthState) (p : Plan) (r : Result (List ℕ) OciDistributionError) → {row : Row (List ℕ)} → Takes to limit digest request head row → Reaches 10 request head last old mid → plan_of digest head ≡ p → limit_of (reading_by to limit p) ≡ Some limit → mid.faults ≤ new.faults → new.told ≡ mid.told → Steady mid new → length body ≤ limit → ((rest : List ℕ) → mid.rest ≡ Some rest → body ≡ rest) → EndsUnbroken mid new → Matches is_memory r (read_by last.url (answer_of head body) p) → Meets is_memory row old new k k r
unfolding attempt offer blob_reading
blob_read to limit digest request head last body old mid new k p r (inl row) reach is reads le same steady small whole unbroken says = rw row (reached_answered 10 request (blob_reading to limit digest) (blob_reply digest) head last limit body reach (ap (λ (q : Plan). limit_of (reading_by to limit q)) is ∙ reads) le same steady small whole unbroken (read_met last.url head body (plan_of digest head) p r new k is says))
blob_read to limit digest request head last body old mid new k p r (inr offered) reach is reads le same steady small whole unbroken says = rw offered.2 (reached_answered 10 request (offer_reading to limit digest) (offer_reply digest offered.1) head last limit body reach (ap limit_of (offered_reading to limit digest head offered.0) ∙ (ap (λ (q : Plan). limit_of (reading_by to limit q)) is ∙ reads)) le same steady small whole unbroken (read_met last.url head body (plan_of digest head) p r new k is says))

pub blob_long : (to : Destination) (limit : ℕ) (digest : List ℕ) (request : Request) (head : AnswerHead) (last : Request) (old mid new : Link) (k : AuthState) (p : Plan) → {row : Row (List ℕ)} → Takes to limit digest request head row → Reaches 10 request head last old mid → plan_of digest head ≡ p → limit_of (reading_by to limit p) ≡ Some limit → mid.faults ≤ new.faults → new.told ≡ mid.told → Steady mid new → TakesPast limit mid new → Meets is_memory row old new k k (Err refusal.BodyTooLong)
unfolding attempt offer blob_reading
blob_long to limit digest request head last old mid new k p (inl row) reach is reads le same steady long = rw row (reached_long 10 request (blob_reading to limit digest) (blob_reply digest) head last limit reach (ap (λ (q : Plan). limit_of (reading_by to limit q)) is ∙ reads) le same steady long (Meets-err is_memory new k refusal.BodyTooLong refl))
blob_long to limit digest request head last old mid new k p (inr offered) reach is reads le same steady long = rw offered.2 (reached_long 10 request (offer_reading to limit digest) (offer_reply digest offered.1) head last limit reach (ap limit_of (offered_reading to limit digest head offered.0) ∙ (ap (λ (q : Plan). limit_of (reading_by to limit q)) is ∙ reads)) le same steady long (Meets-err is_memory new k refusal.BodyTooLong refl))

pub blob_failed : (to : Destination) (limit : ℕ) (digest : List ℕ) (request : Request) (head : AnswerHead) (last : Request) (old mid new : Link) (k : AuthState) (p : Plan) → {row : Row (List ℕ)} → Takes to limit digest request head row → Reaches 10 request head last old mid → plan_of digest head ≡ p → limit_of (reading_by to limit p) ≡ Some limit → mid.faults ≤ new.faults → new.told ≡ mid.told → Steady mid new → Increased mid.faults new.faults → Meets is_memory row old new k k (Err refusal.TransportFault)
unfolding attempt offer blob_reading
blob_failed to limit digest request head last old mid new k p (inl row) reach is reads le same steady rose = rw row (reached_failed 10 request (blob_reading to limit digest) (blob_reply digest) head last limit reach (ap (λ (q : Plan). limit_of (reading_by to limit q)) is ∙ reads) le same steady rose (Meets-err is_memory new k refusal.TransportFault refl))
blob_failed to limit digest request head last old mid new k p (inr offered) reach is reads le same steady rose = rw offered.2 (reached_failed 10 request (offer_reading to limit digest) (offer_reply digest offered.1) head last limit reach (ap limit_of (offered_reading to limit digest head offered.0) ∙ (ap (λ (q : Plan). limit_of (reading_by to limit q)) is ∙ reads)) le same steady rose (Meets-err is_memory new k refusal.TransportFault refl))

pub blob_spilled : (limit : ℕ) (digest : List ℕ) (request : Request) (head : AnswerHead) (last : Request) (old mid new : Link) (k : AuthState) (given : Option Expected) (own : Expected) → {row : Row (List ℕ)} → Takes IntoSink limit digest request head row → Reaches 10 request head last old mid → plan_of digest head ≡ plan.Pour given own → mid.faults ≤ new.faults → new.told ≡ mid.told → Steady mid new → Meets is_memory row old new k k (Err refusal.SinkFault)
unfolding attempt offer blob_reading
blob_spilled limit digest request head last old mid new k given own (inl row) reach is le same steady = rw row (reached_spilled 10 request (blob_reading IntoSink limit digest) (blob_reply digest) head last limit reach (ap (reading_by IntoSink limit) is) le same steady (Meets-err is_memory new k refusal.SinkFault refl))
blob_spilled limit digest request head last old mid new k given own (inr offered) reach is le same steady = rw offered.2 (reached_spilled 10 request (offer_reading IntoSink limit digest) (offer_reply digest offered.1) head last limit reach (offered_reading IntoSink limit digest head offered.0 ∙ ap (reading_by IntoSink limit) is) le same steady (Meets-err is_memory new k refusal.SinkFault refl))

-- a response with another status is refused, or memory ran out while stating why
pub blob_judged : (to : Destination) (limit : ℕ) (digest : List ℕ) (request : Request) (head : AnswerHead) (last : Request) (body : List ℕ) (old mid new : Link) (k : AuthState) (e : OciDistributionError) → {row : Row (List ℕ)} → Takes to limit digest request head row → Reaches 10 request head last old mid → plan_of digest head ≡ plan.Judge → mid.faults ≤ new.faults → new.told ≡ mid.told → Steady mid new → length body ≤ limit → ((rest : List ℕ) → mid.rest ≡ Some rest → body ≡ rest) → EndsUnbroken mid new → MatchesError is_memory e (refused_answer 200 last.url (answer_of head body)) → Meets is_memory row old new k k (Err e)
blob_judged to limit digest request head last body old mid new k e {row} takes reach is le same steady small whole unbroken says = by_memory (is_memory e) refl says where
  by_memory : (b : Bool) → is_memory e ≡ b → MatchBool b (Unit {0}) (e ≡ refused_answer 200 last.url (answer_of head body)) → Meets is_memory row old new k k (Err e)
  by_memory true of_memory says = blob_wanting to limit digest request head last old mid new k e takes reach le same steady of_memory
  by_memory false other says = blob_read to limit digest request head last body old mid new k plan.Judge (Err e) takes reach is refl le same steady small whole unbroken (rw other (ap Err (sym says)))

chosen_first : {A : Type 0} (b : Bool) (x y : A) → b ≡ true → (if b then x else y) ≡ x
chosen_first true x y h = refl
chosen_first false x y h = absurd (cc h)

passed_reading : (to : Destination) (limit : ℕ) (digest : List ℕ) (head : AnswerHead) → is_error head.status ≡ true → offer_reading to limit digest head ≡ Unread
unfolding offer_reading
passed_reading to limit digest head bad = chosen_first (is_error head.status) Unread (blob_reading to limit digest head) bad

-- ---- an offer whose response has a 4xx or 5xx status, and what comes next

pub offer_passed : (to : Destination) (limit : ℕ) (digest : List ℕ) (next : Row (List ℕ)) (request : Request) (head : AnswerHead) (last : Request) (old new end : Link) (k l : AuthState) (r : Result (List ℕ) OciDistributionError) → Reaches 10 request head last old new → is_error head.status ≡ true → Meets is_memory next new end k l r → Meets is_memory (offer to limit digest next request) old end k l r
unfolding offer
offer_passed to limit digest next request head last old new end k l r reach bad rest = reached_headed 10 request (offer_reading to limit digest) (offer_reply digest next) head last reach (passed_reading to limit digest head bad) (rw (chosen_first (is_error head.status) next (blob_reply digest last (Headed head)) bad) rest)

pub offer_missed : (to : Destination) (limit : ℕ) (digest : List ℕ) (next : Row (List ℕ)) (request : Request) (old new : Link) (k : AuthState) → Misses 10 request old new → Meets is_memory (offer to limit digest next request) old new k k (Err refusal.TransportFault)
unfolding offer
offer_missed to limit digest next request old new k m = missed 10 request (offer_reading to limit digest) (offer_reply digest next) m (λ last. Meets-err is_memory new k refusal.TransportFault refl)

pub offer_cut : (to : Destination) (limit : ℕ) (digest : List ℕ) (next : Row (List ℕ)) (request : Request) (old new : Link) (k : AuthState) → Cuts 10 request old new → Meets is_memory (offer to limit digest next request) old new k k (Err refusal.WantOfMemory)
unfolding offer
offer_cut to limit digest next request old new k c = cut is_memory 10 request (offer_reading to limit digest) (offer_reply digest next) k refusal.WantOfMemory c refl

-- ---- a blob that is held in memory

filled_says : (body : List ℕ) (x : Result Unit OciDistributionError) → x ≡ Ok tt → (x >> Ok body) ≡ Ok body
filled_says body x is = rw is refl

refused_says : (body : List ℕ) (e : OciDistributionError) (x : Result Unit OciDistributionError) → Matches {A = Unit} is_memory (Err e) x → Matches {A = List ℕ} is_memory (Err e) (x >> Ok body)
refused_says body e x h = by_memory (is_memory e) h where
  by_memory : (b : Bool) → MatchBool b (Unit {0}) (x ≡ Err e) → MatchBool b (Unit {0}) ((x >> Ok body) ≡ Err e)
  by_memory true h = tt
  by_memory false h = rw h refl

limit_into : (to : Destination) (limit : ℕ) → limit_of (reading_into to limit) ≡ Some limit
limit_into IntoSink limit = refl
limit_into IntoMemory limit = refl

-- the whole body was read, and its digests were compared
pub blob_compared : (to : Destination) (limit : ℕ) (digest : List ℕ) (request : Request) (head : AnswerHead) (last : Request) (body : List ℕ) (old mid new : Link) (k : AuthState) (given : Option Expected) (own : Expected) (r : Result (List ℕ) OciDistributionError) → {row : Row (List ℕ)} → Takes to limit digest request head row → Reaches 10 request head last old mid → plan_of digest head ≡ plan.Pour given own → mid.faults ≤ new.faults → new.told ≡ mid.told → Steady mid new → length body ≤ limit → ((rest : List ℕ) → mid.rest ≡ Some rest → body ≡ rest) → EndsUnbroken mid new → Matches is_memory r (both_compared given own body >> Ok body) → Meets is_memory row old new k k r
blob_compared to limit digest request head last body old mid new k given own r takes reach is le same steady small whole unbroken says = blob_read to limit digest request head last body old mid new k (plan.Pour given own) r takes reach is (limit_into to limit) le same steady small whole unbroken says

-- at the exit of a `?`
pub compared_on : (e : OciDistributionError) (r s : Result (Unit {0}) OciDistributionError) → Matches {A = Unit {0}} is_memory (Err e) s → IsErrAnd r (λ x. x ≡ e) → Matches is_memory r s
compared_on e r s says is = let at = err_from_is_err_and r is in rw (at.1, at.2) says

pub held_other : (limit : ℕ) (digest : List ℕ) (request : Request) (head : AnswerHead) (last : Request) (body : List ℕ) (old mid new : Link) (k : AuthState) (given : Option Expected) (own : Expected) (e : OciDistributionError) (r : Result (List ℕ) OciDistributionError) → {row : Row (List ℕ)} → Takes IntoMemory limit digest request head row → Reaches 10 request head last old mid → plan_of digest head ≡ plan.Pour given own → mid.faults ≤ new.faults → new.told ≡ mid.told → Steady mid new → length body ≤ limit → ((rest : List ℕ) → mid.rest ≡ Some rest → body ≡ rest) → EndsUnbroken mid new → Matches {A = Unit} is_memory (Err e) (both_compared given own body) → IsErrAnd r (λ x. x ≡ e) → Meets is_memory row old new k k r
held_other limit digest request head last body old mid new k given own e r takes reach is le same steady small whole unbroken bad from_is = let at = err_from_is_err_and r from_is in rw (at.1, at.2) (blob_compared IntoMemory limit digest request head last body old mid new k given own (Err e) takes reach is le same steady small whole unbroken (refused_says body e (both_compared given own body) bad))

pub held_whole : (limit : ℕ) (digest : List ℕ) (request : Request) (head : AnswerHead) (last : Request) (body : List ℕ) (old mid new : Link) (k : AuthState) (given : Option Expected) (own : Expected) → {row : Row (List ℕ)} → Takes IntoMemory limit digest request head row → Reaches 10 request head last old mid → plan_of digest head ≡ plan.Pour given own → mid.faults ≤ new.faults → new.told ≡ mid.told → Steady mid new → length body ≤ limit → ((rest : List ℕ) → mid.rest ≡ Some rest → body ≡ rest) → EndsUnbroken mid new → both_compared given own body ≡ Ok tt → Meets is_memory row old new k k (Ok body)
held_whole limit digest request head last body old mid new k given own takes reach is le same steady small whole unbroken good = blob_compared IntoMemory limit digest request head last body old mid new k given own (Ok body) takes reach is le same steady small whole unbroken (filled_says body (both_compared given own body) good)

-- memory ran out while inspecting the head
pub held_wanting : (limit : ℕ) (digest : List ℕ) (request : Request) (head : AnswerHead) (last : Request) (old new : Link) (k : AuthState) (r : Result (List ℕ) OciDistributionError) → {row : Row (List ℕ)} → Takes IntoMemory limit digest request head row → Reaches 10 request head last old new → IsErrAnd r (λ x. x ≡ refusal.WantOfMemory) → Meets is_memory row old new k k r
held_wanting limit digest request head last old new k r takes reach is = let at = err_from_is_err_and r is in rw (at.1, at.2) (blob_wanting IntoMemory limit digest request head last old new new k refusal.WantOfMemory takes reach (omega arith) refl (Steady-none new) refl)

-- a prefix was written, and the call was refused
pub spills_front : {p : Row (List ℕ)} {old mid new : Link} {k l : AuthState} {e : OciDistributionError} (n : ℕ) (request : Request) (head : AnswerHead) (last : Request) (before after : SinkState) → Reaches n request head last old mid → is_success head.status ≡ true → new.told ≡ mid.told → Steady mid new → before.faults ≤ after.faults → StreamsPrefix mid before after → Meets is_memory p old new k l (Err e) → (◌≡◌ {A = Result Unit OciDistributionError} (Err e) (Err refusal.SinkFault) → Increased before.faults after.faults) → MeetsIntoSink p old new k l before after (Err e)
spills_front {p} {old} {mid} {new} n request head last before after reach good same steady le front met fault = record { body = front.front; met = met; put = front.put; front = front_told n request head last old mid new front.front reach good same steady front.part; count = le; fault = fault }

-- ---- a response with another status

by_list : (url : List ℕ) (answer : Answer) (x : Option OciEnvelope) → by_envelope url answer x ≡ refusal.SinkFault → ⊥
by_list url answer (Some envelope) h = cc
by_list url answer None h = cc

not_sink_answer : (url : List ℕ) (answer : Answer) → refused_answer 200 url answer ≡ refusal.SinkFault → ⊥
not_sink_answer url answer = by_status (nat_eq answer.status 401) (is_success answer.status) (is_client_error answer.status) where
  by_status : (a b c : Bool) → (if a then refusal.UnauthorizedError url else (if b then refusal.SpecViolationError (Status 200 answer.status url) else (if c then by_envelope url answer (envelope_in answer.body) else refusal.ServerError answer.status url answer.body))) ≡ refusal.SinkFault → ⊥
  by_status true b c h = cc
  by_status false true c h = cc
  by_status false false true h = by_list url answer (envelope_in answer.body) h
  by_status false false false h = cc

-- a response with another status is refused, or memory ran out while stating why
pub spills_judged : (limit : ℕ) (digest : List ℕ) (request : Request) (head : AnswerHead) (last : Request) (body : List ℕ) (old mid new : Link) (k : AuthState) (sink : SinkState) (e : OciDistributionError) → {row : Row (List ℕ)} → Takes IntoSink limit digest request head row → Reaches 10 request head last old mid → plan_of digest head ≡ plan.Judge → mid.faults ≤ new.faults → new.told ≡ mid.told → Steady mid new → length body ≤ limit → ((rest : List ℕ) → mid.rest ≡ Some rest → body ≡ rest) → EndsUnbroken mid new → MatchesError is_memory e (refused_answer 200 last.url (answer_of head body)) → MeetsIntoSink row old new k k sink sink (Err e)
spills_judged limit digest request head last body old mid new k sink e {row} takes reach is le same steady small whole unbroken says = by_memory (is_memory e) refl says where
  by_memory : (b : Bool) → is_memory e ≡ b → MatchBool b (Unit {0}) (e ≡ refused_answer 200 last.url (answer_of head body)) → MeetsIntoSink row old new k k sink sink (Err e)
  by_memory true of_memory says = spills_none sink (blob_wanting IntoSink limit digest request head last old mid new k e takes reach le same steady of_memory) (λ h. let is : e ≡ refusal.SinkFault = cc in absurd (cc (rw is at of_memory)))
  by_memory false other says = spills_none sink (blob_read IntoSink limit digest request head last body old mid new k plan.Judge (Err e) takes reach is refl le same steady small whole unbroken (rw other (ap Err (sym says)))) (λ h. let is : e ≡ refusal.SinkFault = cc in absurd (not_sink_answer last.url (answer_of head body) (sym says ∙ is)))

-- ---- a body that was written whole

-- the whole body was written, and has its digests
pub spills_whole : (limit : ℕ) (digest : List ℕ) (request : Request) (head : AnswerHead) (last : Request) (old mid new : Link) (k : AuthState) (before after : SinkState) (from to : Digesters) (given : Option Expected) (own : Expected)
    → {row : Row (List ℕ)} → Takes IntoSink limit digest request head row → Reaches 10 request head last old mid → plan_of digest head ≡ plan.Pour given own → mid.faults ≤ new.faults → new.told ≡ mid.told → Steady mid new → before.faults ≤ after.faults → StreamsBody limit from to mid new before after → BothHold from (given_algorithm given) own.algorithm []
    → ((m : List ℕ) → BothHold to (given_algorithm given) own.algorithm m → both_compared given own m ≡ Ok tt)
    → MeetsIntoSink row old new k k before after (Ok tt)
spills_whole limit digest request head last old mid new k before after from to given own takes reach is le same steady count pours fresh good = record {
  body = pours.body;
  met = blob_read IntoSink limit digest request head last pours.body old mid new k (plan.Pour given own) (Ok pours.body) takes reach is refl le same steady pours.small pours.whole pours.unbroken (filled_says pours.body _ (good pours.body (pours.hashed (given_algorithm given) own.algorithm fresh)));
  put = pours.put;
  front = front_told 10 request head last old mid new pours.body reach (pours_success digest head given own is) same steady (λ rest h. ([], sym (pours.whole rest h) ∙ sym (append-nil pours.body)));
  count = count;
  fault = λ h. cc;
}

one_not_sink : (x : Expected) (body : List ℕ) → compared x body ≡ Err refusal.SinkFault → ⊥
one_not_sink x body = by_same (bytes_eq x.text (digest_text x.algorithm body)) where
  by_same : (b : Bool) → (if b then Ok (tt {0}) else Err (refusal.DigestError (VerificationError x.text (digest_text x.algorithm body)))) ≡ Err refusal.SinkFault → ⊥
  by_same true h = cc
  by_same false h = cc

given_not_sink : (given : Option Expected) (body : List ℕ) → given_compared given body ≡ Err refusal.SinkFault → ⊥
given_not_sink None body h = cc
given_not_sink (Some x) body h = one_not_sink x body h

both_not_sink : (x y : Result Unit OciDistributionError) → (x ≡ Err refusal.SinkFault → ⊥) → (y ≡ Err refusal.SinkFault → ⊥) → (x >> y) ≡ Err refusal.SinkFault → ⊥
both_not_sink (Ok u) y f g h = g h
both_not_sink (Err e) y f g h = f h

not_sink : (e : OciDistributionError) (x : Result Unit OciDistributionError) (P : Type 0) → (x ≡ Err refusal.SinkFault → ⊥) → Matches {A = Unit} is_memory (Err e) x → ◌≡◌ {A = Result Unit OciDistributionError} (Err e) (Err refusal.SinkFault) → P
not_sink e x P never says h = let is : e ≡ refusal.SinkFault = cc in absurd (never (rw is at says))

-- the whole body was written, and does not have its digests
pub spills_other : (limit : ℕ) (digest : List ℕ) (request : Request) (head : AnswerHead) (last : Request) (old mid new : Link) (k : AuthState) (before after : SinkState) (from to : Digesters) (given : Option Expected) (own : Expected) (e : OciDistributionError) (r : Result Unit OciDistributionError)
    → {row : Row (List ℕ)} → Takes IntoSink limit digest request head row → Reaches 10 request head last old mid → plan_of digest head ≡ plan.Pour given own → mid.faults ≤ new.faults → new.told ≡ mid.told → Steady mid new → before.faults ≤ after.faults → StreamsBody limit from to mid new before after → BothHold from (given_algorithm given) own.algorithm []
    → ((m : List ℕ) → BothHold to (given_algorithm given) own.algorithm m → Matches {A = Unit} is_memory (Err e) (both_compared given own m)) → IsErrAnd r (λ x. x ≡ e)
    → MeetsIntoSink row old new k k before after r
spills_other limit digest request head last old mid new k before after from to given own e r takes reach is le same steady count pours fresh bad from_is = let at = err_from_is_err_and r from_is in rw (at.1, at.2) (record {
  body = pours.body;
  met = blob_read IntoSink limit digest request head last pours.body old mid new k (plan.Pour given own) (Err e) takes reach is refl le same steady pours.small pours.whole pours.unbroken (refused_says pours.body e _ (bad pours.body (pours.hashed (given_algorithm given) own.algorithm fresh)));
  put = pours.put;
  front = front_told 10 request head last old mid new pours.body reach (pours_success digest head given own is) same steady (λ rest h. ([], sym (pours.whole rest h) ∙ sym (append-nil pours.body)));
  count = count;
  fault = not_sink e (both_compared given own pours.body) (Increased before.faults after.faults) (both_not_sink _ _ (given_not_sink given pours.body) (one_not_sink own pours.body)) (bad pours.body (pours.hashed (given_algorithm given) own.algorithm fresh));
})

-- ---- a step, and then one that writes bytes

later_front : (bytes : List ℕ) (c d : List Exchange) → IsPrefix bytes d → IsPrefix bytes (c ++ d)
later_front bytes c d (inl none) = inl none
later_front bytes c d (inr h) = inr (record {
  before = c ++ h.before;
  last = h.last;
  split = ap (λ (x : List Exchange). c ++ x) h.split ∙ sym (append_assoc c h.before (h.last ∷ []));
  answer = h.answer;
  answered = h.answered;
  success = h.success;
  left = h.left;
  body = h.body;
})

-- the exchanges of the first step come first
pub spills_next : {A : Type 0} {p : Row A} (f : A → Row (List ℕ)) {old mid new : Link} {k l j : AuthState} {a : A} {before after : SinkState} {r : Result Unit OciDistributionError} → Meets is_memory p old mid k l (Ok a) → MeetsIntoSink (f a) mid new l j before after r → MeetsIntoSink (p >>= f) old new k j before after r
spills_next {A} {p} f {old} {mid} {new} {k} {l} {j} {a} {before} {after} {r} first second = by_run first.outcome where
  by_run : Performs p old mid k l (Ok a) → MeetsIntoSink (p >>= f) old new k j before after r
  by_run run = record {
    body = second.body;
    met = and_then f first second.met;
    put = second.put;
    front = record { conversation = run.conversation ++ second.front.conversation; told = Extends-more old mid new run.conversation second.front.conversation run.told second.front.told; holds = later_front second.body run.conversation second.front.conversation second.front.holds };
    count = second.count;
    fault = second.fault;
  }

-- an offer that was skipped, and what comes next writes
pub spills_passed : (limit : ℕ) (digest : List ℕ) (next : Row (List ℕ)) (request : Request) (head : AnswerHead) (last : Request) (old new end : Link) (k l : AuthState) (before later : SinkState) (r : Result Unit OciDistributionError) → Reaches 10 request head last old new → is_error head.status ≡ true → MeetsIntoSink next new end k l before later r → MeetsIntoSink (offer IntoSink limit digest next request) old end k l before later r
spills_passed limit digest next request head last old new end k l before later r reach bad rest = record {
  body = rest.body;
  met = offer_passed IntoSink limit digest next request head last old new end k l (filled rest.body r) reach bad rest.met;
  put = rest.put;
  front = record {
    conversation = (reach.follows.conversation ++ exchange ∷ []) ++ rest.front.conversation;
    told = Extends-more old new end (reach.follows.conversation ++ exchange ∷ []) rest.front.conversation (Extends-more old reach.mid new reach.follows.conversation (exchange ∷ []) reach.follows.told reach.sent.added) rest.front.told;
    holds = later_front rest.body (reach.follows.conversation ++ exchange ∷ []) rest.front.conversation rest.front.holds;
  };
  count = rest.count;
  fault = rest.fault;
} where
  exchange : Exchange
  exchange = record { request = last; answer = Some (answer_of head reach.sent.body); faults = reach.mid.faults }

-- what was written before a refusal, at the exit of a `?`
pub spills_on : {p : Row (List ℕ)} {old new : Link} {k l : AuthState} {before after : SinkState} {e : OciDistributionError} {r : Result Unit OciDistributionError} → MeetsIntoSink p old new k l before after (Err e) → IsErrAnd r (λ x. x ≡ e) → MeetsIntoSink p old new k l before after r
spills_on {r = r} spills is = let at = err_from_is_err_and r is in rw (at.1, at.2) spills

-- an offer that was refused, at the exit of a `?`
pub offered_refused : (next p : Row (List ℕ)) (old new : Link) (k : AuthState) (e : OciDistributionError) (r : Result (Option (List ℕ)) OciDistributionError) → Meets is_memory p old new k k (Err e) → IsErrAnd r (λ x. x ≡ e) → Offered next p old new k r
offered_refused next p old new k e r met is = let at = err_from_is_err_and r is in rw (at.1, at.2) met

pub offered_into_refused : (next p : Row (List ℕ)) (old new : Link) (k : AuthState) (before after : SinkState) (e : OciDistributionError) (r : Result Bool OciDistributionError) → MeetsIntoSink p old new k k before after (Err e) → IsErrAnd r (λ x. x ≡ e) → OfferedInto next p old new k before after r
offered_into_refused next p old new k before after e r spills is = let at = err_from_is_err_and r is in rw (at.1, at.2) spills
