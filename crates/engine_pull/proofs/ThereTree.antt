-- The response that states whether a blob is there, each outcome.
use Rattle.std.proofs.Common.{◌≡◌, ◌≤◌, ℕ, Bool, true, false, List, Some, Result, Ok, Err, length, refl, sym, ap}
use Rattle.std.specs.Prelude.{MatchBool, if◌then◌else◌}
use Rattle.json_values.specs.Counts.{Increased}
use Rattle.oci_transport.specs.Link.{Link, Steady, answer_of, EndsUnbroken, TakesPast}
use Rattle.oci_transport.specs.declared.message.Request.{Request}
use Rattle.oci_transport.specs.declared.message.AnswerHead.{AnswerHead}
use Rattle.oci_auth.specs.declared.auth_state.AuthState.{AuthState}
use Rattle.oci_protocol.specs.Proto.{Unread, Within, limit_of}
use Rattle.oci_protocol.specs.Follow.{Reaches, Misses, Cuts}
use Rattle.oci_protocol.specs.Runs.{Meets}
use Rattle.oci_protocol.proofs.Laws.{Meets-ok, Meets-err}
use Rattle.oci_protocol.proofs.RedirectSteps.{reached_headed, reached_answered, reached_long, reached_failed, reached_cut, missed, cut}
use Rattle.json_values.specs.Refusals.{Matches, MatchesError}
use Rattle.engine_terms.specs.Error.{is_memory}
use Rattle.engine_terms.specs.declared.error.OciDistributionError.{OciDistributionError}
use Rattle.engine_terms.specs.declared.error.OciDistributionError.TheVariants as refusal
use Rattle.engine_answers.specs.Answers.{is_success, refused_answer}
use Rattle.oci_protocol.proofs.Exits.{said}
use Rattle.engine_pull.specs.Listings.{is_told, unless_told, is_there, there_after}

told_unread : (limit : ℕ) (head : AnswerHead) → is_told head.status ≡ true → unless_told limit head ≡ Unread
unfolding unless_told
told_unread limit head is = ap (λ (b : Bool). if b then Unread else Within limit) is

other_within : (limit : ℕ) (head : AnswerHead) → is_told head.status ≡ false → limit_of (unless_told limit head) ≡ Some limit
unfolding unless_told
other_within limit head is = ap (λ (b : Bool). limit_of (if b then Unread else Within limit)) is

as_matches : (A : Type 0) (e cause : OciDistributionError) → MatchesError is_memory e cause → Matches {A = A} is_memory (Err e) (Err cause)
as_matches A e cause = by_memory (is_memory e) where
  by_memory : (b : Bool) → MatchBool b (Unit {0}) (e ≡ cause) → MatchBool b (Unit {0}) (◌≡◌ {A = Result A OciDistributionError} (Err cause) (Err e))
  by_memory true h = tt
  by_memory false h = ap Err (sym h)

module _ (request : Request) (limit : ℕ) (k : AuthState) where
  pub there_told : (head : AnswerHead) (last : Request) (old new : Link) → Reaches 10 request head last old new → is_told head.status ≡ true → Meets is_memory (there_after request limit) old new k k (Ok (is_success head.status))
  unfolding there_after
  there_told head last old new reach is = reached_headed 10 request (unless_told limit) is_there head last reach (told_unread limit head is) (Meets-ok is_memory new k (is_success head.status))

  pub there_refused : (head : AnswerHead) (last : Request) (body : List ℕ) (old mid new : Link) (e : OciDistributionError) → Reaches 10 request head last old mid → is_told head.status ≡ false → mid.faults ≤ new.faults → new.told ≡ mid.told → Steady mid new → length body ≤ limit → ((rest : List ℕ) → mid.rest ≡ Some rest → body ≡ rest) → EndsUnbroken mid new
      → MatchesError is_memory e (refused_answer 200 last.url (answer_of head body)) → Meets is_memory (there_after request limit) old new k k (Err e)
  unfolding there_after
  there_refused head last body old mid new e reach is le same steady small all unbroken cause = reached_answered 10 request (unless_told limit) is_there head last limit body reach (other_within limit head is) le same steady small all unbroken (said (Err e) (as_matches Bool e (refused_answer 200 last.url (answer_of head body)) cause))

  pub there_long : (head : AnswerHead) (last : Request) (old mid new : Link) → Reaches 10 request head last old mid → is_told head.status ≡ false → mid.faults ≤ new.faults → new.told ≡ mid.told → Steady mid new → TakesPast limit mid new → Meets is_memory (there_after request limit) old new k k (Err refusal.BodyTooLong)
  unfolding there_after
  there_long head last old mid new reach is le same steady long = reached_long 10 request (unless_told limit) is_there head last limit reach (other_within limit head is) le same steady long (Meets-err is_memory new k refusal.BodyTooLong refl)

  pub there_failed : (head : AnswerHead) (last : Request) (old mid new : Link) → Reaches 10 request head last old mid → is_told head.status ≡ false → mid.faults ≤ new.faults → new.told ≡ mid.told → Steady mid new → Increased mid.faults new.faults → Meets is_memory (there_after request limit) old new k k (Err refusal.TransportFault)
  unfolding there_after
  there_failed head last old mid new reach is le same steady rose = reached_failed 10 request (unless_told limit) is_there head last limit reach (other_within limit head is) le same steady rose (Meets-err is_memory new k refusal.TransportFault refl)

  pub there_wanting : (head : AnswerHead) (last : Request) (old mid new : Link) → Reaches 10 request head last old mid → mid.faults ≤ new.faults → new.told ≡ mid.told → Steady mid new → Meets is_memory (there_after request limit) old new k k (Err refusal.WantOfMemory)
  unfolding there_after
  there_wanting head last old mid new reach le same steady = reached_cut is_memory 10 request (unless_told limit) is_there head last k refusal.WantOfMemory reach le same steady refl

  pub there_missed : (old new : Link) → Misses 10 request old new → Meets is_memory (there_after request limit) old new k k (Err refusal.TransportFault)
  unfolding there_after
  there_missed old new m = missed 10 request (unless_told limit) is_there m (λ last. Meets-err is_memory new k refusal.TransportFault refl)

  pub there_cut : (old new : Link) → Cuts 10 request old new → Meets is_memory (there_after request limit) old new k k (Err refusal.WantOfMemory)
  unfolding there_after
  there_cut old new c = cut is_memory 10 request (unless_told limit) is_there k refusal.WantOfMemory c refl
