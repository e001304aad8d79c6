-- The response that is read if its header names a digest, each outcome.
use Rattle.std.proofs.Common.{◌≡◌, ◌≤◌, ◌<◌, ℕ, Bool, true, false, arith, List, Option, Some, Result, Ok, Err, length, refl, ap, ◌∙◌}
use Rattle.std.specs.Prelude.{MatchBool}
use Rattle.std.specs.Result.{IsErrAnd}
use Rattle.std.proofs.lemmas.Result.{err_from_is_err_and}
use Rattle.json_values.specs.Counts.{Increased}
use Rattle.oci_transport.specs.Link.{Link, Steady, answer_of, EndsUnbroken, TakesPast}
use Rattle.oci_transport.specs.declared.message.Request.{Request}
use Rattle.oci_transport.specs.declared.message.AnswerHead.{AnswerHead}
use Rattle.oci_auth.specs.declared.auth_state.AuthState.{AuthState}
use Rattle.oci_protocol.specs.Proto.{Unread, limit_of, Done}
use Rattle.oci_protocol.specs.Follow.{Reaches, Misses, Cuts}
use Rattle.oci_protocol.specs.Runs.{Meets}
use Rattle.oci_protocol.proofs.Laws.{Meets-err}
use Rattle.oci_protocol.proofs.RedirectSteps.{reached_headed, reached_answered, reached_long, reached_failed, reached_cut, missed, cut}
use Rattle.oci_protocol.proofs.Conversations.{Steady-none}
use Rattle.engine_terms.specs.declared.error.OciDistributionError.{OciDistributionError}
use Rattle.engine_terms.specs.declared.error.OciDistributionError.TheVariants as refusal
use Rattle.json_values.specs.Refusals.{Matches}
use Rattle.engine_terms.specs.Error.{is_memory}
use Rattle.engine_answers.specs.Answers.{header_digest}
use Rattle.engine_rows.specs.declared.named.NamedAnswer.{NamedAnswer}
use Rattle.engine_rows.specs.declared.named.NamedAnswer.TheVariants.{ByHeader}
use Rattle.engine_rows.specs.Rows.{named_after, named_reading, reading_named, unread_named, read_named, named_reply}
use Rattle.oci_protocol.proofs.Exits.{said}

-- the header names no digest, or one that is refused
unread_met : (d e : Result (Option (List ℕ)) OciDistributionError) (r : Result NamedAnswer OciDistributionError) (link : Link) (k : AuthState) → d ≡ e → Matches is_memory r (unread_named e) → Meets is_memory (Done (unread_named d)) link link k k r
unread_met d e r link k is says = said r (rw is says)

pub named_unread : (times : ℕ) (request : Request) (limit : ℕ) (head : AnswerHead) (last : Request) (old new : Link) (k : AuthState) (d : Result (Option (List ℕ)) OciDistributionError) (r : Result NamedAnswer OciDistributionError) → Reaches times request head last old new → header_digest head.headers ≡ d → reading_named limit d ≡ Unread → Matches is_memory r (unread_named d) → Meets is_memory (named_after times request limit) old new k k r
unfolding named_after named_reading
named_unread times request limit head last old new k d r reach is unread says = reached_headed times request (named_reading limit) named_reply head last reach (ap (reading_named limit) is ∙ unread) (unread_met (header_digest head.headers) d r new k is says)

at_digest : (limit : ℕ) (digest : List ℕ) (head : AnswerHead) → header_digest head.headers ≡ Ok (Some digest) → limit_of (named_reading limit head) ≡ Some limit
unfolding named_reading
at_digest limit digest head is = ap (λ d. limit_of (reading_named limit d)) is

pub named_answered : (times : ℕ) (request : Request) (limit : ℕ) (head : AnswerHead) (last : Request) (digest body : List ℕ) (old mid new : Link) (k : AuthState) → Reaches times request head last old mid → header_digest head.headers ≡ Ok (Some digest) → mid.faults ≤ new.faults → new.told ≡ mid.told → Steady mid new → length body ≤ limit → ((rest : List ℕ) → mid.rest ≡ Some rest → body ≡ rest) → EndsUnbroken mid new
    → Meets is_memory (named_after times request limit) old new k k (Ok (ByHeader digest (record { url = last.url; answer = answer_of head body })))
unfolding named_after
named_answered times request limit head last digest body old mid new k reach is le same steady small all unbroken = reached_answered times request (named_reading limit) named_reply head last limit body reach (at_digest limit digest head is) le same steady small all unbroken (said _ (ap (read_named (record { url = last.url; answer = answer_of head body })) is))

pub named_long : (times : ℕ) (request : Request) (limit : ℕ) (head : AnswerHead) (last : Request) (digest : List ℕ) (old mid new : Link) (k : AuthState) → Reaches times request head last old mid → header_digest head.headers ≡ Ok (Some digest) → mid.faults ≤ new.faults → new.told ≡ mid.told → Steady mid new → TakesPast limit mid new
    → Meets is_memory (named_after times request limit) old new k k (Err refusal.BodyTooLong)
unfolding named_after
named_long times request limit head last digest old mid new k reach is le same steady long = reached_long times request (named_reading limit) named_reply head last limit reach (at_digest limit digest head is) le same steady long (Meets-err is_memory new k refusal.BodyTooLong refl)

pub named_failed : (times : ℕ) (request : Request) (limit : ℕ) (head : AnswerHead) (last : Request) (digest : List ℕ) (old mid new : Link) (k : AuthState) → Reaches times request head last old mid → header_digest head.headers ≡ Ok (Some digest) → mid.faults ≤ new.faults → new.told ≡ mid.told → Steady mid new → Increased mid.faults new.faults
    → Meets is_memory (named_after times request limit) old new k k (Err refusal.TransportFault)
unfolding named_after
named_failed times request limit head last digest old mid new k reach is le same steady rose = reached_failed times request (named_reading limit) named_reply head last limit reach (at_digest limit digest head is) le same steady rose (Meets-err is_memory new k refusal.TransportFault refl)

pub named_wanting : (times : ℕ) (request : Request) (limit : ℕ) (head : AnswerHead) (last : Request) (old mid new : Link) (k : AuthState) → Reaches times request head last old mid → mid.faults ≤ new.faults → new.told ≡ mid.told → Steady mid new → Meets is_memory (named_after times request limit) old new k k (Err refusal.WantOfMemory)
unfolding named_after
named_wanting times request limit head last old mid new k reach le same steady = reached_cut is_memory times request (named_reading limit) named_reply head last k refusal.WantOfMemory reach le same steady refl

pub named_missed : (times : ℕ) (request : Request) (limit : ℕ) (old new : Link) (k : AuthState) → Misses times request old new → Meets is_memory (named_after times request limit) old new k k (Err refusal.TransportFault)
unfolding named_after
named_missed times request limit old new k m = missed times request (named_reading limit) named_reply m (λ last. Meets-err is_memory new k refusal.TransportFault refl)

pub named_cut : (times : ℕ) (request : Request) (limit : ℕ) (old new : Link) (k : AuthState) → Cuts times request old new → Meets is_memory (named_after times request limit) old new k k (Err refusal.WantOfMemory)
unfolding named_after
named_cut times request limit old new k c = cut is_memory times request (named_reading limit) named_reply k refusal.WantOfMemory c refl

cut_at : (times : ℕ) (request : Request) (limit : ℕ) (head : AnswerHead) (last : Request) (old new : Link) (k : AuthState) (e : OciDistributionError) → Reaches times request head last old new → is_memory e ≡ true → Meets is_memory (named_after times request limit) old new k k (Err e)
unfolding named_after
cut_at times request limit head last old new k e reach of_memory = reached_cut is_memory times request (named_reading limit) named_reply head last k e reach (omega arith) refl (Steady-none new) of_memory

-- the header is refused, or memory ran out while reading it
pub named_refused : (times : ℕ) (request : Request) (limit : ℕ) (head : AnswerHead) (last : Request) (old new : Link) (k : AuthState) (e : OciDistributionError) (r : Result NamedAnswer OciDistributionError) → Reaches times request head last old new → Matches {A = Option (List ℕ)} is_memory (Err e) (header_digest head.headers) → IsErrAnd r (λ x. x ≡ e) → Meets is_memory (named_after times request limit) old new k k r
named_refused times request limit head last old new k e r reach says is = let at = err_from_is_err_and r is in rw (at.1, at.2) (by_memory (is_memory e) refl says) where
  by_memory : (b : Bool) → is_memory e ≡ b → MatchBool b (Unit {0}) (header_digest head.headers ≡ Err e) → Meets is_memory (named_after times request limit) old new k k (Err e)
  by_memory true of_memory says = cut_at times request limit head last old new k e reach of_memory
  by_memory false other says = named_unread times request limit head last old new k (Err e) (Err e) reach says refl (rw other refl)
