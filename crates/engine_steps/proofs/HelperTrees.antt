-- Ways to send a request, each outcome of them.
use Rattle.std.proofs.Common.{◌≡◌, ◌≤◌, ◌<◌, ℕ, List, ◌++◌, Some, Result, Ok, Err, IfOk, length, refl}
use Rattle.std.specs.Result.{IsErrAnd}
use Rattle.std.proofs.lemmas.Result.{err_from_is_err_and}
use Rattle.oci_transport.specs.Link.{Link, Steady, answer_of, EndsUnbroken, TakesPast}
use Rattle.json_values.specs.Counts.{Increased}
use Rattle.oci_transport.specs.declared.message.Request.{Request}
use Rattle.oci_transport.specs.declared.message.AnswerHead.{AnswerHead}
use Rattle.oci_protocol.specs.Proto.{Unread, limit_of, read_within, read_none}
use Rattle.oci_protocol.specs.Follow.{Reaches, Misses, Cuts}
use Rattle.oci_protocol.specs.Runs.{Meets}
use Rattle.oci_protocol.proofs.Laws.{Meets-ok, Meets-err}
use Rattle.oci_protocol.proofs.RedirectSteps.{reached_headed, reached_answered, reached_long, reached_failed, reached_cut, missed, cut}
use Rattle.engine_terms.specs.declared.error.OciDistributionError.TheVariants as refusal
use Rattle.oci_auth.specs.declared.auth_state.AuthState.{AuthState}
use Rattle.engine_terms.specs.Error.{is_memory}
use Rattle.engine_rows.specs.Rows.{whole, whole_reply, head_after, head_reply}
use Rattle.engine_steps.specs.BodyUnread.{BodyUnread}

within : (limit : ℕ) (head : AnswerHead) → limit_of (read_within limit head) ≡ Some limit
unfolding read_within
within limit head = refl

pub whole_answered : (times : ℕ) (request : Request) (limit : ℕ) (head : AnswerHead) (last : Request) (body : List ℕ) (old mid new : Link) → Reaches times request head last old mid → mid.faults ≤ new.faults → new.told ≡ mid.told → Steady mid new → length body ≤ limit → ((rest : List ℕ) → mid.rest ≡ Some rest → body ≡ rest) → EndsUnbroken mid new
    → (k : AuthState) → Meets is_memory (whole times request limit) old new k k (Ok (record { url = last.url; answer = answer_of head body }))
unfolding whole
whole_answered times request limit head last body old mid new reach le same steady small all unbroken k = reached_answered times request (read_within limit) whole_reply head last limit body reach (within limit head) le same steady small all unbroken (Meets-ok is_memory new k _)

pub whole_long : (times : ℕ) (request : Request) (limit : ℕ) (head : AnswerHead) (last : Request) (old mid new : Link) → Reaches times request head last old mid → mid.faults ≤ new.faults → new.told ≡ mid.told → Steady mid new → TakesPast limit mid new
    → (k : AuthState) → Meets is_memory (whole times request limit) old new k k (Err refusal.BodyTooLong)
unfolding whole
whole_long times request limit head last old mid new reach le same steady long k = reached_long times request (read_within limit) whole_reply head last limit reach (within limit head) le same steady long (Meets-err is_memory new k refusal.BodyTooLong refl)

pub whole_failed : (times : ℕ) (request : Request) (limit : ℕ) (head : AnswerHead) (last : Request) (old mid new : Link) → Reaches times request head last old mid → mid.faults ≤ new.faults → new.told ≡ mid.told → Steady mid new → Increased mid.faults new.faults
    → (k : AuthState) → Meets is_memory (whole times request limit) old new k k (Err refusal.TransportFault)
unfolding whole
whole_failed times request limit head last old mid new reach le same steady rose k = reached_failed times request (read_within limit) whole_reply head last limit reach (within limit head) le same steady rose (Meets-err is_memory new k refusal.TransportFault refl)

pub whole_cut : (times : ℕ) (request : Request) (limit : ℕ) (head : AnswerHead) (last : Request) (old mid new : Link) → Reaches times request head last old mid → mid.faults ≤ new.faults → new.told ≡ mid.told → Steady mid new
    → (k : AuthState) → Meets is_memory (whole times request limit) old new k k (Err refusal.WantOfMemory)
unfolding whole
whole_cut times request limit head last old mid new reach le same steady k = reached_cut is_memory times request (read_within limit) whole_reply head last k refusal.WantOfMemory reach le same steady refl

pub whole_missed : (times : ℕ) (request : Request) (limit : ℕ) (old new : Link) → Misses times request old new → (k : AuthState) → Meets is_memory (whole times request limit) old new k k (Err refusal.TransportFault)
unfolding whole
whole_missed times request limit old new m k = missed times request (read_within limit) whole_reply m (λ last. Meets-err is_memory new k refusal.TransportFault refl)

pub whole_wanting : (times : ℕ) (request : Request) (limit : ℕ) (old new : Link) → Cuts times request old new → (k : AuthState) → Meets is_memory (whole times request limit) old new k k (Err refusal.WantOfMemory)
unfolding whole
whole_wanting times request limit old new c k = cut is_memory times request (read_within limit) whole_reply k refusal.WantOfMemory c refl

none : (head : AnswerHead) → read_none head ≡ Unread
unfolding read_none
none head = refl

pub head_came : (times : ℕ) (request : Request) (head : AnswerHead) (last : Request) (old new : Link) → Reaches times request head last old new → (k : AuthState) → Meets is_memory (head_after times request) old new k k (Ok head)
unfolding head_after
head_came times request head last old new reach k = reached_headed times request read_none head_reply head last reach (none head) (Meets-ok is_memory new k head)

pub head_missed : (times : ℕ) (request : Request) (old new : Link) → Misses times request old new → (k : AuthState) → Meets is_memory (head_after times request) old new k k (Err refusal.TransportFault)
unfolding head_after
head_missed times request old new m k = missed times request read_none head_reply m (λ last. Meets-err is_memory new k refusal.TransportFault refl)

pub head_wanting : (times : ℕ) (request : Request) (old new : Link) → Cuts times request old new → (k : AuthState) → Meets is_memory (head_after times request) old new k k (Err refusal.WantOfMemory)
unfolding head_after
head_wanting times request old new c k = cut is_memory times request read_none head_reply k refusal.WantOfMemory c refl

-- nothing was taken yet
pub reached_untaken : (times : ℕ) (request : Request) (head : AnswerHead) (last : Request) (old new : Link) → Reaches times request head last old new → BodyUnread head old new
reached_untaken times request head last old new r = record {
  body = r.sent.body;
  answered = λ before h. (before ++ r.follows.conversation, record { request = last; answer = Some (answer_of head r.sent.body); faults = r.mid.faults }, r.sent.added.told (before ++ r.follows.conversation) (r.follows.told.told before h), refl);
  rest = λ before h. r.sent.rest (before ++ r.follows.conversation) (r.follows.told.told before h);
}

-- at the exit of a `?`
pub not_ok : {A E : Type 0} (P : A → Type 0) (r : Result A E) (e : E) → IsErrAnd r (λ x. x ≡ e) → IfOk r P
not_ok P r e is = let at = err_from_is_err_and r is in rw at.1 tt

pub ruleset whole_answers = (whole_answered, whole_long, whole_failed, whole_cut, whole_missed, whole_wanting)

pub ruleset head_answers = (reached_untaken, head_came, head_missed, head_wanting)
