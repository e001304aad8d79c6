-- The location that is returned, each outcome, and what its request contained.
use Rattle.std.proofs.Common.{◌≡◌, ◌≤◌, ℕ, zero, true, false, List, [], ◌∷◌, ◌++◌, Some, Result, Ok, Err, length, refl, sym, ap, subst, ◌∙◌, append-nil}
use Rattle.std.specs.Prelude.{if◌then◌else◌}
use Rattle.json_values.specs.Counts.{Increased}
use Rattle.oci_names.specs.declared.reference.Reference.{Reference}
use Rattle.oci_transport.specs.Link.{Link, Steady, EndsUnbroken, TakesPast}
use Rattle.oci_transport.specs.declared.message.Request.{Request}
use Rattle.oci_transport.specs.declared.message.AnswerHead.{AnswerHead}
use Rattle.oci_transport.specs.declared.message.Exchange.{Exchange}
use Rattle.oci_auth.specs.declared.auth_state.AuthState.{AuthState}
use Rattle.oci_protocol.specs.Proto.{Reading, Unread, Within, limit_of, Reply, Headed, Answered, Failed, TooLong, SinkFailed, Done}
use Rattle.oci_protocol.specs.Follow.{Reaches, Misses, Cuts, Trail}
use Rattle.oci_protocol.specs.Runs.{Runs, Meets}
use Rattle.oci_protocol.specs.Safe.{Safe, EachAfter}
use Rattle.oci_protocol.specs.EveryRun.{EveryRun, Heard, WhenOk}
use Rattle.oci_protocol.proofs.Laws.{Meets-err}
use Rattle.oci_protocol.proofs.Parts.{Runs-done}
use Rattle.oci_protocol.proofs.RunFacts.{EveryRun-follow, Meets-shows-ok}
use Rattle.oci_protocol.proofs.Safety.{Safe-once, Meets-safe}
use Rattle.oci_protocol.proofs.RedirectSteps.{reached_headed, reached_answered, reached_long, reached_failed, reached_cut, missed, cut}
use Rattle.json_values.specs.Refusals.{Matches, ◌>>=◌ as ◌into◌}
use Rattle.engine_terms.specs.Error.{is_memory}
use Rattle.oci_transport.specs.Headers.{Fields}
use Rattle.engine_terms.specs.declared.error.OciDistributionError.{OciDistributionError}
use Rattle.engine_terms.specs.declared.error.OciDistributionError.TheVariants as refusal
use Rattle.engine_terms.specs.declared.settings.Settings.{Settings}
use Rattle.engine_answers.specs.Answers.{is_success}
use Rattle.oci_protocol.proofs.Exits.{said}
use Rattle.push_rows.specs.Bodies.{bodies, IsPrefix, Sends}
use Rattle.push_rows.specs.PieceStates.{part}
use Rattle.push_rows.specs.Contents.{bytes_of, with_fields, with_content}
use Rattle.push_rows.specs.declared.content.Content.{Content}
use Rattle.push_rows.specs.Locations.{located}
use Rattle.push_rows.specs.Uploads.{unless_success, location_reply, location_after}

success_unread : (limit : ℕ) (head : AnswerHead) → is_success head.status ≡ true → unless_success limit head ≡ Unread
unfolding unless_success
success_unread limit head is = ap (λ b. if b then Unread else Within limit) is

other_within : (limit : ℕ) (head : AnswerHead) → is_success head.status ≡ false → limit_of (unless_success limit head) ≡ Some limit
unfolding unless_success
other_within limit head is = ap (λ b. limit_of (if b then Unread else Within limit)) is

module _ (s : Settings) (image : Reference) (expected : ℕ) (request : Request) (k : AuthState) where
  pub location_headed : (head : AnswerHead) (last : Request) (old new : Link) (r : Result (List ℕ) OciDistributionError) → Reaches 0 request head last old new → is_success head.status ≡ true → Matches is_memory r (located s image expected last.url head) → Meets is_memory (location_after s image expected request) old new k k r
  unfolding location_after
  location_headed head last old new r reach is says = reached_headed 0 request (unless_success s.max_body_bytes) (location_reply s image expected) head last reach (success_unread s.max_body_bytes head is) (said r says)

  pub location_refused : (head : AnswerHead) (last : Request) (body : List ℕ) (old mid new : Link) → Reaches 0 request head last old mid → is_success head.status ≡ false → mid.faults ≤ new.faults → new.told ≡ mid.told → Steady mid new → length body ≤ s.max_body_bytes → ((rest : List ℕ) → mid.rest ≡ Some rest → body ≡ rest) → EndsUnbroken mid new
      → Meets is_memory (location_after s image expected request) old new k k (Err (refusal.ServerError head.status last.url body))
  unfolding location_after
  location_refused head last body old mid new reach is le same steady small all unbroken = reached_answered 0 request (unless_success s.max_body_bytes) (location_reply s image expected) head last s.max_body_bytes body reach (other_within s.max_body_bytes head is) le same steady small all unbroken (Meets-err is_memory new k _ refl)

  pub location_long : (head : AnswerHead) (last : Request) (old mid new : Link) → Reaches 0 request head last old mid → is_success head.status ≡ false → mid.faults ≤ new.faults → new.told ≡ mid.told → Steady mid new → TakesPast s.max_body_bytes mid new
      → Meets is_memory (location_after s image expected request) old new k k (Err refusal.BodyTooLong)
  unfolding location_after
  location_long head last old mid new reach is le same steady long = reached_long 0 request (unless_success s.max_body_bytes) (location_reply s image expected) head last s.max_body_bytes reach (other_within s.max_body_bytes head is) le same steady long (Meets-err is_memory new k refusal.BodyTooLong refl)

  pub location_failed : (head : AnswerHead) (last : Request) (old mid new : Link) → Reaches 0 request head last old mid → is_success head.status ≡ false → mid.faults ≤ new.faults → new.told ≡ mid.told → Steady mid new → Increased mid.faults new.faults
      → Meets is_memory (location_after s image expected request) old new k k (Err refusal.TransportFault)
  unfolding location_after
  location_failed head last old mid new reach is le same steady rose = reached_failed 0 request (unless_success s.max_body_bytes) (location_reply s image expected) head last s.max_body_bytes reach (other_within s.max_body_bytes head is) le same steady rose (Meets-err is_memory new k refusal.TransportFault refl)

  pub location_wanting : (head : AnswerHead) (last : Request) (old mid new : Link) → Reaches 0 request head last old mid → mid.faults ≤ new.faults → new.told ≡ mid.told → Steady mid new → Meets is_memory (location_after s image expected request) old new k k (Err refusal.WantOfMemory)
  unfolding location_after
  location_wanting head last old mid new reach le same steady = reached_cut is_memory 0 request (unless_success s.max_body_bytes) (location_reply s image expected) head last k refusal.WantOfMemory reach le same steady refl

  pub location_missed : (old new : Link) → Misses 0 request old new → Meets is_memory (location_after s image expected request) old new k k (Err refusal.TransportFault)
  unfolding location_after
  location_missed old new m = missed 0 request (unless_success s.max_body_bytes) (location_reply s image expected) m (λ last. Meets-err is_memory new k refusal.TransportFault refl)

  pub location_cut : (old new : Link) → Cuts 0 request old new → Meets is_memory (location_after s image expected request) old new k k (Err refusal.WantOfMemory)
  unfolding location_after
  location_cut old new c = cut is_memory 0 request (unless_success s.max_body_bytes) (location_reply s image expected) k refusal.WantOfMemory c refl

-- ---- what the request contained

reply_done : (s : Settings) (image : Reference) (expected : ℕ) (last : Request) (reply : Reply) → (a : Result (List ℕ) OciDistributionError) × (location_reply s image expected last reply ≡ Done a)
reply_done s image expected last (Headed head) = (_, refl)
reply_done s image expected last (Answered answer) = (_, refl)
reply_done s image expected last Failed = (_, refl)
reply_done s image expected last TooLong = (_, refl)
reply_done s image expected last SinkFailed = (_, refl)

nothing_behind : (s : Settings) (image : Reference) (expected : ℕ) (last : Request) (reply : Reply) (k l : AuthState) (m n : ℕ) (c : List Exchange) (a : Result (List ℕ) OciDistributionError) → Runs (location_reply s image expected last reply) k m c n l a → c ≡ []
nothing_behind s image expected last reply k l m n c a run = let at = reply_done s image expected last reply in (Runs-done at.0 k m c n l a (subst (λ p. Runs p k m c n l a) at.1 run)).0

one_carried : (request last : Request) {reading : AnswerHead → Reading} (m after : ℕ) (c : List Exchange) (reply : Reply) → Heard zero request reading m c after last reply → bodies c ≡ part request.body
unfolding Trail
one_carried request last m after c reply h = by_trail h.redirects h.split h.trail where
  by_trail : (redirects : List Exchange) → c ≡ redirects ++ h.exchange ∷ [] → Trail zero request m redirects h.left last h.before → bodies c ≡ part request.body
  by_trail [] split trail = ap bodies split ∙ append-nil (part h.exchange.request.body) ∙ ap (λ (r : Request). part r.body) (h.replies.request_is ∙ sym trail.1)
  by_trail (e ∷ redirects) split trail = absurd trail

location_shown : (s : Settings) (image : Reference) (expected : ℕ) (request : Request) → EveryRun (WhenOk (λ m c n location. bodies c ≡ part request.body)) (location_after s image expected request)
unfolding location_after
location_shown s image expected request = EveryRun-follow (WhenOk (λ m c n location. bodies c ≡ part request.body)) 0 request (unless_success s.max_body_bytes) (location_reply s image expected) each where
  by_answer : (c : List Exchange) (m o : ℕ) (r : Result (List ℕ) OciDistributionError) → bodies c ≡ part request.body → WhenOk (λ m c n location. bodies c ≡ part request.body) m c o r
  by_answer c m o (Ok location) is = is
  by_answer c m o (Err e) is = tt

  each : (k l : AuthState) (m after o : ℕ) (c d : List Exchange) (last : Request) (reply : Reply) (a : Result (List ℕ) OciDistributionError) → Heard 0 request (unless_success s.max_body_bytes) m c after last reply → Runs (location_reply s image expected last reply) k after d o l a → WhenOk (λ m c n location. bodies c ≡ part request.body) m (c ++ d) o a
  each k l m after o c d last reply a h run = by_answer (c ++ d) m o a (ap (λ rest. bodies (c ++ rest)) (nothing_behind s image expected last reply k l after o d a run) ∙ ap bodies (append-nil c) ∙ one_carried request last m after c reply h)

-- the first one is the only one
abbrev Once : List ℕ → List Exchange → Request → Type 0
Once body seen request = (seen ≡ []) × (request.body ≡ body)

location_once : (s : Settings) (image : Reference) (expected : ℕ) (request : Request) (k : AuthState) → Safe (λ k. Once request.body) (λ k c. Unit {0}) (λ k c a. Unit {0}) k [] (location_after s image expected request)
unfolding location_after Safe
location_once s image expected request k = Safe-once (λ k. Once request.body) (λ k c. Unit {0}) (λ k c a. Unit {0}) request (unless_success s.max_body_bytes) (location_reply s image expected) k [] (refl, refl) (λ e before after reply replies. by_reply (e ∷ []) reply) where
  by_reply : (c : List Exchange) (reply : Reply) → Safe (λ k. Once request.body) (λ k c. Unit {0}) (λ k c a. Unit {0}) k c (location_reply s image expected request reply)
  by_reply c (Headed head) = tt
  by_reply c (Answered answer) = tt
  by_reply c Failed = tt
  by_reply c TooLong = tt
  by_reply c SinkFailed = tt

once_front : (body : List ℕ) (c : List Exchange) → EachAfter (Once body) [] c → IsPrefix (bodies c) (part body)
once_front body [] h = (part body, refl)
once_front body (e ∷ []) h = ([], sym (append-nil (bodies (e ∷ [])) ∙ append-nil (part e.request.body) ∙ ap part h.0.1))
once_front body (e ∷ f ∷ c) h = absurd (cc h.1.0.0)

pub location_sends : (s : Settings) (image : Reference) (expected : ℕ) (request : Request) {old new : Link} {k l : AuthState} (r : Result (List ℕ) OciDistributionError) → Meets is_memory (location_after s image expected request) old new k l r → Sends (part request.body) old new r
location_sends s image expected request (Ok location) met = Meets-shows-ok (λ m c n location. bodies c ≡ part request.body) (location_shown s image expected request) met
location_sends s image expected request {k = k} (Err e) met =
    let told = Meets-safe (Once request.body) (λ k c. Unit {0}) (λ k c a. Unit {0}) (location_once s image expected request k) met in
    record { conversation = told.conversation; told = told.told; holds = once_front request.body told.conversation told.holds }

-- the request is built with this content
pub as_sent : {A E : Type 0} (content : Content) (bare request : Request) (old new : Link) (r : Result A E) → with_content content bare ≡ Ok request → Sends (part request.body) old new r → Sends (part (bytes_of content)) old new r
unfolding with_content
as_sent {A} {E} content bare request old new r is sends = subst (λ bytes. Sends (part bytes) old new r) (by_fields (with_fields content bare.headers) is) sends where
  by_fields : (fields : Result Fields OciDistributionError) → (fields into (λ headers. Ok (record bare { headers = headers; body = bytes_of content }))) ≡ Ok request → request.body ≡ bytes_of content
  by_fields (Ok headers) is = let made : (record bare { headers = headers; body = bytes_of content }) ≡ request = cc is in sym (ap (λ (r : Request). r.body) made)
  by_fields (Err e) is = absurd (cc is)
