-- The outcomes of one request and its complete answer.
use Rattle.std.proofs.Common.{◌≡◌, ◌≤◌, ◌<◌, ℕ, Bool, true, false, List, Some, Ok, Err, length, refl}
use Rattle.oci_transport.specs.Link.{Link, Steady, answer_of, EndsUnbroken, TakesPast}
use Rattle.json_values.specs.Counts.{Increased}
use Rattle.oci_transport.specs.declared.message.Request.{Request}
use Rattle.oci_transport.specs.declared.message.AnswerHead.{AnswerHead}
use Rattle.oci_protocol.specs.Proto.{limit_of, read_within}
use Rattle.oci_protocol.specs.Follow.{Reaches, Misses, Cuts}
use Rattle.oci_protocol.specs.Runs.{Meets}
use Rattle.oci_protocol.proofs.Laws.{Meets-ok, Meets-err}
use Rattle.oci_protocol.proofs.RedirectSteps.{reached_answered, reached_long, reached_failed, reached_cut, missed, cut}
use Rattle.sig_services.specs.Exchange.{whole, whole_reply}

within : (limit : ℕ) (head : AnswerHead) → limit_of (read_within limit head) ≡ Some limit
unfolding read_within
within limit head = refl

module _ {E : Type 0} (is_memory : E → Bool) (link too_long : E) where
  pub answered : (limit : ℕ) (request : Request) (head : AnswerHead) (last : Request) (body : List ℕ) (old mid new : Link) → Reaches 0 request head last old mid → mid.faults ≤ new.faults → new.told ≡ mid.told → Steady mid new → length body ≤ limit → ((rest : List ℕ) → mid.rest ≡ Some rest → body ≡ rest) → EndsUnbroken mid new
      → (k : Unit {0}) → Meets is_memory (whole link too_long limit request) old new k k (Ok (answer_of head body))
  unfolding whole
  answered limit request head last body old mid new reach le same steady small all unbroken k = reached_answered 0 request (read_within limit) (whole_reply link too_long) head last limit body reach (within limit head) le same steady small all unbroken (Meets-ok is_memory new k _)

  pub long : (limit : ℕ) (request : Request) (head : AnswerHead) (last : Request) (old mid new : Link) → is_memory too_long ≡ false → Reaches 0 request head last old mid → mid.faults ≤ new.faults → new.told ≡ mid.told → Steady mid new → TakesPast limit mid new
      → (k : Unit {0}) → Meets is_memory (whole link too_long limit request) old new k k (Err too_long)
  unfolding whole
  long limit request head last old mid new other reach le same steady longer k = reached_long 0 request (read_within limit) (whole_reply link too_long) head last limit reach (within limit head) le same steady longer (Meets-err is_memory new k too_long other)

  pub failed : (limit : ℕ) (request : Request) (head : AnswerHead) (last : Request) (old mid new : Link) → is_memory link ≡ false → Reaches 0 request head last old mid → mid.faults ≤ new.faults → new.told ≡ mid.told → Steady mid new → Increased mid.faults new.faults
      → (k : Unit {0}) → Meets is_memory (whole link too_long limit request) old new k k (Err link)
  unfolding whole
  failed limit request head last old mid new other reach le same steady rose k = reached_failed 0 request (read_within limit) (whole_reply link too_long) head last limit reach (within limit head) le same steady rose (Meets-err is_memory new k link other)

  pub wanting_body : (limit : ℕ) (request : Request) (head : AnswerHead) (last : Request) (old mid new : Link) (memory : E) → is_memory memory ≡ true → Reaches 0 request head last old mid → mid.faults ≤ new.faults → new.told ≡ mid.told → Steady mid new
      → (k : Unit {0}) → Meets is_memory (whole link too_long limit request) old new k k (Err memory)
  unfolding whole
  wanting_body limit request head last old mid new memory wanted reach le same steady k = reached_cut is_memory 0 request (read_within limit) (whole_reply link too_long) head last k memory reach le same steady wanted

  pub missed_it : (limit : ℕ) (request : Request) (old new : Link) → is_memory link ≡ false → Misses 0 request old new → (k : Unit {0}) → Meets is_memory (whole link too_long limit request) old new k k (Err link)
  unfolding whole
  missed_it limit request old new other m k = missed 0 request (read_within limit) (whole_reply link too_long) m (λ last. Meets-err is_memory new k link other)

  pub wanting_send : (limit : ℕ) (request : Request) (old new : Link) (memory : E) → is_memory memory ≡ true → Cuts 0 request old new → (k : Unit {0}) → Meets is_memory (whole link too_long limit request) old new k k (Err memory)
  unfolding whole
  wanting_send limit request old new memory wanted c k = cut is_memory 0 request (read_within limit) (whole_reply link too_long) k memory c wanted
