use Rattle.std.specs.Prelude.{◌≡◌, ◌<◌, ◌≤◌, ◌⊎◌, ℕ, suc, Bool, List, [], ◌∷◌, Option, Some, Result, Ok, Err, MatchBool}
use Rattle.std.specs.Prelude.{length}
use Rattle.json_values.specs.Counts.{Increased}
use Rattle.oci_transport.specs.Link.{Link, Answering, Extends, answer_of}
use Rattle.oci_transport.specs.declared.message.Request.{Request}
use Rattle.oci_transport.specs.declared.message.Answer.{Answer}
use Rattle.oci_transport.specs.declared.message.AnswerHead.{AnswerHead}
use Rattle.oci_transport.specs.declared.message.Exchange.{Exchange}
use Rattle.oci_protocol.specs.Proto.{Reading, Unread, Piped, limit_of, Reply, Headed, Answered, Failed}
use Rattle.oci_protocol.specs.Proto.{TooLong, SinkFailed, Proto, Done, Ask, Recall, Keep, Consult}

abbrev pub head_part : Answer → AnswerHead
head_part answer = record { status = answer.status; headers = answer.headers }

-- this reply is possible for this exchange if the fault count after it is `after`
abbrev pub IsReply : (AnswerHead → Reading) → Exchange → ℕ → Reply → Type 0
IsReply reading e after (Headed head) = (body : List ℕ) × (e.answer ≡ Some (answer_of head body))
    × (reading head ≡ Unread)
IsReply reading e after (Answered answer) = (limit : ℕ) × (e.answer ≡ Some answer)
    × (limit_of (reading (head_part answer)) ≡ Some limit) × (length answer.body ≤ limit)
IsReply reading e after Failed = Increased e.faults after
IsReply reading e after TooLong = (answer : Answer) × (limit : ℕ) × (e.answer ≡ Some answer)
    × (limit_of (reading (head_part answer)) ≡ Some limit) × (limit < length answer.body)
IsReply reading e after SinkFailed = (answer : Answer) × (limit : ℕ) × (e.answer ≡ Some answer)
    × (reading (head_part answer) ≡ Piped limit)

-- a failure is that of the send, or of a call while the body was read: not of a body that is not read
abbrev pub FailsAsRead : (AnswerHead → Reading) → Exchange → Reply → Type 0
FailsAsRead reading e Failed = (answer : Answer) → e.answer ≡ Some answer → reading (head_part answer) ≡ Unread → ⊥
FailsAsRead reading e reply = Unit {0}

-- the exchange is that of the request, sent at the fault count `before`, and this reply is possible for it
pub record Replies (request : Request)
    (reading : AnswerHead → Reading) (before : ℕ) (e : Exchange) (after : ℕ) (reply : Reply) : Type 0 where
  pub request_is : e.request ≡ request
  pub faults_is : e.faults ≡ before
  pub count : before ≤ after
  pub reply_is : IsReply reading e after reply
  pub fails_as : FailsAsRead reading e reply

-- a body that is known to be truncated was not read beyond that index: its fault is met first, and the reply is then a
-- failure
abbrev pub IsUnbroken : Answering → ℕ → (AnswerHead → Reading) → Exchange → Reply → Type 0
IsUnbroken t place reading e (Answered answer) = (bytes : ℕ) → t.breaks place ≡ Some bytes → ⊥
IsUnbroken t place reading e TooLong = (answer : Answer) (limit bytes : ℕ) → e.answer ≡ Some answer
    → limit_of (reading (head_part answer)) ≡ Some limit → t.breaks place ≡ Some bytes → bytes ≤ limit → ⊥
IsUnbroken t place reading e reply = Unit {0}

-- one exchange was added, if exchanges are exposed, and this is its reply
pub record AddsExchange (request : Request) (reading : AnswerHead → Reading) (old new : Link)
    (reply : Reply) : Type 0 where
  pub exchange : Exchange
  pub told : Extends old new (exchange ∷ [])
  pub replies : Replies request reading old.faults exchange new.faults reply
  pub unbroken : (t : Answering) (before : List Exchange) → old.answers ≡ Some t → old.told ≡ Some before
      → IsUnbroken t (length before) reading exchange reply

-- P holds for the added exchanges, if exchanges are exposed
pub record Told (P : List Exchange → Type 0) (old new : Link) : Type 0 where
  pub conversation : List Exchange
  pub told : Extends old new conversation
  pub holds : P conversation

-- From the client state k and the fault count m, the exchanges c are a complete run of the protocol, which ends with
-- the client state l, the fault count n and the result a.
unfoldable pub Runs : {K A : Type 0} → Proto K A → K → ℕ → List Exchange → ℕ → K → A → Type 0
Runs (Done x) k m [] n l a = (m ≡ n) × (k ≡ l) × (x ≡ a)
Runs (Done x) k m (e ∷ c) n l a = ⊥
Runs (Ask request reading next) k m [] n l a = ⊥
Runs (Ask request reading next) k m (e ∷ c) n l a = (after : ℕ) × (reply : Reply)
    × Replies request reading m e after reply × Runs (next reply) k after c n l a
Runs (Recall next) k m c n l a = Runs (next k) k m c n l a
Runs (Keep kept rest) k m c n l a = Runs rest kept m c n l a
Runs (Consult next) k m c n l a = (said : Option (List ℕ)) × Runs (next said) k m c n l a

-- The same for a transport that responds by t, from this index of its whole conversation on.
unfoldable pub RunsBy : {K A : Type 0}
    → Answering → ℕ → Proto K A → K → ℕ → List Exchange → ℕ → K → A → Type 0
RunsBy t place (Done x) k m [] n l a = (m ≡ n) × (k ≡ l) × (x ≡ a)
RunsBy t place (Done x) k m (e ∷ c) n l a = ⊥
RunsBy t place (Ask request reading next) k m [] n l a = ⊥
RunsBy t place (Ask request reading next) k m (e ∷ c) n l a = (after : ℕ) × (reply : Reply)
    × Replies request reading m e after reply × IsUnbroken t place reading e reply
    × RunsBy t (suc place) (next reply) k after c n l a
RunsBy t place (Recall next) k m c n l a = RunsBy t place (next k) k m c n l a
RunsBy t place (Keep kept rest) k m c n l a = RunsBy t place rest kept m c n l a
RunsBy t place (Consult next) k m c n l a = (said : Option (List ℕ)) × RunsBy t place (next said) k m c n l a

-- The exchanges c are a prefix of a run, cut off anywhere, also before the body of the last response was read. The
-- client state was l then.
unfoldable pub RunPrefix : {K A : Type 0} → Proto K A → K → ℕ → List Exchange → K → Type 0
RunPrefix (Done x) k m [] l = k ≡ l
RunPrefix (Done x) k m (e ∷ c) l = ⊥
RunPrefix (Ask request reading next) k m [] l = k ≡ l
RunPrefix (Ask request reading next) k m (e ∷ c) l = ((e.request ≡ request) × (e.faults ≡ m) × (c ≡ []) × (k ≡ l))
    ⊎ ((after : ℕ) × (reply : Reply) × Replies request reading m e after reply × RunPrefix (next reply) k after c l)
RunPrefix (Recall next) k m c l = RunPrefix (next k) k m c l
RunPrefix (Keep kept rest) k m c l = ((c ≡ []) × (k ≡ l)) ⊎ RunPrefix rest kept m c l
RunPrefix (Consult next) k m c l = (said : Option (List ℕ)) × RunPrefix (next said) k m c l

-- The protocol had a complete run over the transport, from old to new. The conversation is the exposed one, if
-- exchanges are exposed.
pub record Performs {K A : Type 0} (p : Proto K A) (old new : Link) (k l : K) (a : A) : Type 0 where
  pub conversation : List Exchange
  pub told : Extends old new conversation
  pub runs : Runs p k old.faults conversation new.faults l a
  pub runs_by : (t : Answering) (before : List Exchange) → old.answers ≡ Some t → old.told ≡ Some before
      → RunsBy t (length before) p k old.faults conversation new.faults l a

-- a prefix of it had
pub record PerformsPrefix {K A : Type 0} (p : Proto K A) (old new : Link) (k l : K) : Type 0 where
  pub conversation : List Exchange
  pub told : Extends old new conversation
  pub stops : RunPrefix p k old.faults conversation l
  pub count : old.faults ≤ new.faults

-- a result of the protocol, or an out-of-memory error that cut it off
abbrev pub Outcome : {K A E : Type 0} → (E → Bool) → Proto K (Result A E) → Link → Link → K → K → Result A E → Type 0
Outcome of_memory p old new k l (Ok a) = Performs p old new k l (Ok a)
Outcome of_memory p old new k l (Err e) = MatchBool (of_memory e) (PerformsPrefix p old new k l)
    (Performs p old new k l (Err e))

-- The call performed this protocol and returns its result. An out-of-memory error may have cut it off anywhere.
pub record Meets {K A E : Type 0}
    (of_memory : E → Bool) (p : Proto K (Result A E)) (old new : Link) (k l : K) (r : Result A E) : Type 0 where
  pub outcome : Outcome of_memory p old new k l r
