use Rattle.std.specs.Prelude.{ℕ, List, Option, Some, None, Result, Ok, Err}
use Rattle.oci_transport.specs.declared.message.Request.{Request}
use Rattle.oci_transport.specs.declared.message.Answer.{Answer}
use Rattle.oci_transport.specs.declared.message.AnswerHead.{AnswerHead}

-- how the body of a response is read, once its head is known: not at all; whole if it has at most this many bytes; or
-- piece by piece into a sink, with the same limit
pub data Reading : Type 0 where
  Unread : Reading
  Within : (limit : ℕ) → Reading
  Piped : (limit : ℕ) → Reading

-- the limit of a body that is read
abbrev pub limit_of : Reading → Option ℕ
limit_of Unread = None
limit_of (Within limit) = Some limit
limit_of (Piped limit) = Some limit

-- for every head
unfoldable pub read_none : AnswerHead → Reading
read_none head = Unread

unfoldable pub read_within : ℕ → AnswerHead → Reading
read_within limit head = Within limit

-- what a protocol learns of an exchange
pub data Reply : Type 0 where
  Headed : (head : AnswerHead) → Reply
  Answered : (answer : Answer) → Reply
  Failed : Reply
  TooLong : Reply
  SinkFailed : Reply

-- A protocol with results in A and client state in K: it ends with a result, makes a request and continues by the
-- reply, reads the client state, replaces it, or continues by external input: some bytes, or none.
pub data Proto (K A : Type 0) : Type 0 where
  Done : (answer : A) → Proto K A
  Ask : (request : Request) → (reading : AnswerHead → Reading) → (next : Reply → Proto K A) → Proto K A
  Recall : (next : K → Proto K A) → Proto K A
  Keep : (kept : K) → (rest : Proto K A) → Proto K A
  Consult : (next : Option (List ℕ) → Proto K A) → Proto K A

-- one protocol, and then the one that its result leads to
unfoldable pub bind : {K A B : Type 0} → Proto K A → (A → Proto K B) → Proto K B
bind (Done a) f = f a
bind (Ask request reading next) f = Ask request reading (λ reply. bind (next reply) f)
bind (Recall next) f = Recall (λ kept. bind (next kept) f)
bind (Keep kept rest) f = Keep kept (bind rest f)
bind (Consult next) f = Consult (λ said. bind (next said) f)

-- an error ends the protocol
abbrev pub unless_refused : {K A B E : Type 0} → (A → Proto K (Result B E)) → Result A E → Proto K (Result B E)
unless_refused f (Ok a) = f a
unless_refused f (Err e) = Done (Err e)

infixl 10 ◌>>=◌
abbrev pub ◌>>=◌ : {K A B E : Type 0} → Proto K (Result A E) → (A → Proto K (Result B E)) → Proto K (Result B E)
p >>= f = bind p (unless_refused f)

infixl 10 ◌>>◌
abbrev pub ◌>>◌ : {K A B E : Type 0} → Proto K (Result A E) → Proto K (Result B E) → Proto K (Result B E)
p >> q = p >>= (λ _. q)
