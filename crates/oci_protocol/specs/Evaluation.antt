-- The result of a protocol if a transport responds by a table and nothing fails.
use Rattle.std.specs.Prelude.{◌≡◌, ℕ, suc, Option, Some, None, Result, Ok, if◌then◌else◌, nat_lt, length}
use Rattle.oci_transport.specs.Link.{Answering}
use Rattle.oci_transport.specs.declared.message.Answer.{Answer}
use Rattle.oci_transport.specs.declared.message.AnswerHead.{AnswerHead}
use Rattle.oci_protocol.specs.Proto.{Reading, Unread, Within, Piped, Reply, Headed, Answered, Failed, TooLong}
use Rattle.oci_protocol.specs.Proto.{SinkFailed, Proto, Done, Ask, Recall, Keep, Consult}
use Rattle.oci_protocol.specs.Runs.{head_part}
use Rattle.oci_protocol.specs.Ends.{Ends}

-- the reply if a body is read within a limit
abbrev pub within_reply : ℕ → Answer → Reply
within_reply limit answer = if nat_lt limit (length answer.body) then TooLong else Answered answer

-- the reply of a response with this reading
abbrev pub reply_of : Reading → Answer → Reply
reply_of Unread answer = Headed (head_part answer)
reply_of (Within limit) answer = within_reply limit answer
reply_of (Piped limit) answer = within_reply limit answer

-- the reply if a transport gives this response, or none
abbrev pub reply_to : (AnswerHead → Reading) → Option Answer → Reply
reply_to reading None = Failed
reply_to reading (Some answer) = reply_of (reading (head_part answer)) answer

-- the result of a protocol from this index of a conversation: the index after it, the client state, and the result
pub record Evaluation (K A : Type 0) : Type 0 where
  pub place : ℕ
  pub kept : K
  pub answer : A

unfoldable pub evaluation : {K A : Type 0} → Answering → Proto K A → ℕ → K → Evaluation K A
evaluation t (Done a) place k = record { place = place; kept = k; answer = a }
evaluation t (Ask request reading next) place k = evaluation t (next (reply_to reading (t.answer place request)))
    (suc place) k
evaluation t (Recall next) place k = evaluation t (next k) place k
evaluation t (Keep kept rest) place k = evaluation t rest place kept
-- without external input
evaluation t (Consult next) place k = evaluation t (next None) place k

-- the protocol returns `Ok a`, and the client state k becomes l
pub record Evaluates {K A E : Type 0} (t : Answering) (p : Proto K (Result A E)) (place after : ℕ) (k l : K)
    (a : A) : Type 0 where
  pub drives : evaluation t p place k ≡ record { place = after; kept = l; answer = Ok a }

-- x is the result after each failure of the sink, and the protocol takes no external input
unfoldable pub EndsOnSinkFault : {K A : Type 0} → A → Proto K A → Type 0
EndsOnSinkFault x (Done a) = Unit {0}
EndsOnSinkFault x (Ask request reading next) = Ends (λ a. a ≡ x) (next SinkFailed)
    × ((reply : Reply) → EndsOnSinkFault x (next reply))
EndsOnSinkFault {K} x (Recall next) = (k : K) → EndsOnSinkFault x (next k)
EndsOnSinkFault x (Keep kept rest) = EndsOnSinkFault x rest
EndsOnSinkFault x (Consult next) = ⊥
