-- One request for a blob, and which of its bytes a sink holds.
use Rattle.std.specs.Prelude.{◌≡◌, ◌≤◌, ◌⊎◌, ℕ, true, List, [], ◌∷◌, ◌++◌, Some, Result, Ok, Err}
use Rattle.json_values.specs.Counts.{Increased}
use Rattle.byte_streams.specs.SinkState.{SinkState, Adds}
use Rattle.oci_transport.specs.Link.{Link}
use Rattle.oci_transport.specs.declared.message.Request.{Request}
use Rattle.oci_transport.specs.declared.message.Answer.{Answer}
use Rattle.oci_transport.specs.declared.message.AnswerHead.{AnswerHead}
use Rattle.oci_transport.specs.declared.message.Exchange.{Exchange}
use Rattle.oci_auth.specs.declared.auth_state.AuthState.{AuthState}
use Rattle.oci_protocol.specs.Proto.{Reading, Unread, Within, Piped, Reply, Headed, Answered, Failed, TooLong}
use Rattle.oci_protocol.specs.Proto.{SinkFailed, Done}
use Rattle.oci_protocol.specs.Follow.{follow}
use Rattle.oci_protocol.specs.Runs.{Meets, Told, head_part}
use Rattle.engine_terms.specs.declared.error.OciDistributionError.{OciDistributionError}
use Rattle.engine_terms.specs.declared.error.OciDistributionError.TheVariants as refusal
use Rattle.engine_answers.specs.declared.blobs.Plan.{Plan}
use Rattle.engine_answers.specs.declared.blobs.Plan.TheVariants as plan
use Rattle.json_values.specs.Refusals.{◌>>◌}
use Rattle.engine_terms.specs.Error.{is_memory}
use Rattle.engine_answers.specs.Answers.{refused_answer, is_success}
use Rattle.engine_answers.specs.Blobs.{plan_of, both_compared}
use Rattle.engine_rows.specs.Rows.{Row}

-- where a blob goes: piece by piece into a sink, or whole into memory
pub data Destination : Type 0 where
  IntoSink : Destination
  IntoMemory : Destination

abbrev pub reading_into : Destination → ℕ → Reading
reading_into IntoSink limit = Piped limit
reading_into IntoMemory limit = Within limit

-- how the body is read by a plan
abbrev pub reading_by : Destination → ℕ → Plan → Reading
reading_by to limit (plan.Refuse e) = Unread
reading_by to limit plan.Judge = Within limit
reading_by to limit (plan.Pour given own) = reading_into to limit

unfoldable pub blob_reading : Destination → ℕ → List ℕ → AnswerHead → Reading
blob_reading to limit digest head = reading_by to limit (plan_of digest head)

-- the result of a response whose body is unread
abbrev pub unread_by : Plan → Result (List ℕ) OciDistributionError
unread_by (plan.Refuse e) = Err (refusal.DigestError e)
-- unreachable
unread_by plan.Judge = Ok []
unread_by (plan.Pour given own) = Ok []

-- the result of a response whose body was read
abbrev pub read_by : List ℕ → Answer → Plan → Result (List ℕ) OciDistributionError
read_by url answer plan.Judge = Err (refused_answer 200 url answer)
read_by url answer (plan.Pour given own) = both_compared given own answer.body >> Ok answer.body
-- unreachable
read_by url answer (plan.Refuse e) = Err (refusal.DigestError e)

abbrev pub blob_reply : List ℕ → Request → Reply → Row (List ℕ)
blob_reply digest last (Headed head) = Done (unread_by (plan_of digest head))
blob_reply digest last (Answered answer) = Done (read_by last.url answer (plan_of digest (head_part answer)))
blob_reply digest last Failed = Done (Err refusal.TransportFault)
blob_reply digest last TooLong = Done (Err refusal.BodyTooLong)
blob_reply digest last SinkFailed = Done (Err refusal.SinkFault)

-- one request for a blob, and its bytes
unfoldable pub attempt : Destination → ℕ → List ℕ → Request → Row (List ℕ)
attempt to limit digest request = follow 10 request (blob_reading to limit digest) (blob_reply digest)

-- ---- what a sink took

-- a prefix of the body of the last response, whose status is 2xx
pub record IsPrefixOfLast (bytes : List ℕ) (c : List Exchange) : Type 0 where
  pub before : List Exchange
  pub last : Exchange
  pub split : c ≡ before ++ last ∷ []
  pub answer : Answer
  pub answered : last.answer ≡ Some answer
  pub success : is_success answer.status ≡ true
  pub left : List ℕ
  pub body : answer.body ≡ bytes ++ left

-- or nothing
abbrev pub IsPrefix : List ℕ → List Exchange → Type 0
IsPrefix bytes c = (bytes ≡ []) ⊎ IsPrefixOfLast bytes c

-- the result of the protocol, from that of the call and the bytes that were written
abbrev pub filled : List ℕ → Result Unit OciDistributionError → Result (List ℕ) OciDistributionError
filled body (Ok u) = Ok body
filled body (Err e) = Err e

-- A call that performed this protocol and wrote its bytes: those that the protocol returns or, after a refusal, a
-- prefix of the last response's body.
pub record MeetsIntoSink (p : Row (List ℕ)) (old new : Link) (k l : AuthState) (before after : SinkState)
    (r : Result Unit OciDistributionError) : Type 0 where
  pub body : List ℕ
  pub met : Meets is_memory p old new k l (filled body r)
  pub put : Adds body before after
  pub front : Told (IsPrefix body) old new
  pub count : before.faults ≤ after.faults
  pub fault : r ≡ Err refusal.SinkFault → Increased before.faults after.faults
