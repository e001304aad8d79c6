use Rattle.std.specs.Prelude.{◌≡◌, ◌≤◌, ◌⊎◌, ℕ, suc, zero, List, [], ◌∷◌, Option, Some, None}
use Rattle.json_values.specs.Counts.{Increased}
use Rattle.oci_transport.specs.Link.{Link, Extends, Answers, AddsUnanswered, AddsAtMost}
use Rattle.oci_transport.specs.Redirects.{redirected}
use Rattle.oci_transport.specs.declared.message.Request.{Request}
use Rattle.oci_transport.specs.declared.message.AnswerHead.{AnswerHead}
use Rattle.oci_transport.specs.declared.message.Exchange.{Exchange}
use Rattle.oci_protocol.specs.Proto.{Reading, Unread, read_none, Reply, Headed, Proto, Ask}
use Rattle.oci_protocol.specs.Runs.{Replies}

abbrev pub unread_if : Option Request → Reading → Reading
unread_if (Some next) reading = Unread
unread_if None reading = reading

-- the body of a redirect is not read
unfoldable pub turned : Request → (AnswerHead → Reading) → AnswerHead → Reading
turned request reading head = unread_if (redirected request head) (reading head)

abbrev pub go_if : {K A : Type 0} → Option Request → (Request → Proto K A) → Proto K A → Proto K A
go_if (Some next) go stay = go next
go_if None go stay = stay

abbrev pub turn : {K A : Type 0} → Request → (Request → Proto K A) → (Reply → Proto K A) → Reply → Proto K A
turn request go next (Headed head) = go_if (redirected request head) go (next (Headed head))
turn request go next reply = next reply

-- A request whose redirects are followed, at most n of them. What comes next gets the last request and the reply to it.
unfoldable pub follow : {K A : Type 0} → ℕ → Request → (AnswerHead → Reading) → (Request → Reply → Proto K A)
    → Proto K A
follow zero request reading next = Ask request reading (next request)
follow (suc n) request reading next = Ask request (turned request reading) (turn request
    (λ r. follow n r reading next) (next request))

-- how the response to a request is read of which n redirects may be followed
unfoldable pub reading_at : ℕ → Request → (AnswerHead → Reading) → AnswerHead → Reading
reading_at zero request reading = reading
reading_at (suc n) request reading = turned request reading

-- From this request, of which n redirects may be followed, each exchange led to the next request. The last request is
-- not among the exchanges; `left` redirects of it may be followed.
unfoldable pub Trail : ℕ → Request → ℕ → List Exchange → ℕ → Request → ℕ → Type 0
Trail n request m [] left last after = (n ≡ left) × (request ≡ last) × (m ≡ after)
Trail zero request m (e ∷ c) left last after = ⊥
Trail (suc n) request m (e ∷ c) left last after = (between : ℕ) × (head : AnswerHead) × (next : Request)
    × (redirected request head ≡ Some next) × Replies request read_none m e between (Headed head)
    × Trail n next between c left last after

pub record Follows (n : ℕ) (request : Request) (left : ℕ) (last : Request) (old new : Link) : Type 0 where
  pub conversation : List Exchange
  pub told : Extends old new conversation
  pub trail : Trail n request old.faults conversation left last new.faults

-- the response to this request is not a redirect that is followed
abbrev pub IsFinal : ℕ → Request → AnswerHead → Type 0
IsFinal left request head = (left ≡ zero) ⊎ (redirected request head ≡ None)

-- the head of the last response was received, and its body can be taken now
pub record Reaches (n : ℕ) (request : Request) (head : AnswerHead) (last : Request) (old new : Link) : Type 0 where
  pub left : ℕ
  pub mid : Link
  pub follows : Follows n request left last old mid
  pub final : IsFinal left last head
  pub sent : Answers last head mid new
  pub count : mid.faults ≤ new.faults

-- a request got no response
pub record Misses (n : ℕ) (request : Request) (old new : Link) : Type 0 where
  pub left : ℕ
  pub last : Request
  pub mid : Link
  pub follows : Follows n request left last old mid
  pub added : AddsUnanswered last mid new
  pub rose : Increased mid.faults new.faults
  pub count : mid.faults ≤ new.faults

-- memory ran out
pub record Cuts (n : ℕ) (request : Request) (old new : Link) : Type 0 where
  pub left : ℕ
  pub last : Request
  pub mid : Link
  pub follows : Follows n request left last old mid
  pub cut : AddsAtMost last mid new
  pub count : mid.faults ≤ new.faults
