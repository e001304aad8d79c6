-- What a contract sees of a transport, and what a step of it may change.
use Rattle.json_values.specs.Counts.{Increased}
use Rattle.std.specs.Prelude.{◌≡◌, ℕ, suc, ◌≤◌, ◌<◌, ◌+◌, Bool, true, false, List, [], ◌∷◌, ◌++◌, length, Option, Some}
use Rattle.std.specs.Prelude.{None}
use Rattle.oci_transport.specs.Pieces.{joined}
use Rattle.oci_transport.specs.declared.message.Request.{Request}
use Rattle.oci_transport.specs.declared.message.Answer.{Answer}
use Rattle.oci_transport.specs.declared.message.AnswerHead.{AnswerHead}
use Rattle.oci_transport.specs.declared.message.Exchange.{Exchange}

-- how a transport answers: the answer to a request, by its index in the whole conversation, or none
-- if the send fails; whether anything may fail at that index; and after how many bytes the body of
-- the answer is truncated: the call for the next bytes, or for the end, fails
pub record Answering : Type 0 where
  pub answer : ℕ → Request → Option Answer
  pub fails : ℕ → Bool
  pub breaks : ℕ → Option ℕ

-- what a contract sees of a transport: its exchanges, if exposed; the rest of the last answer's body,
-- and the pieces of it that were returned, if exposed; its fault count, and whether that is exact: only
-- failed calls increase it; and how it answers, if known, which is of use only if it exposes its
-- exchanges: the index of an answer is one of the conversation
pub record Link : Type 0 where
  pub told : Option (List Exchange)
  pub rest : Option (List ℕ)
  pub pieces : Option (List (List ℕ))
  pub faults : ℕ
  pub exact : Bool
  pub answers : Option Answering

-- each exchange, starting at this index, has the answer that `a` gives
abbrev pub AnsweredBy : Answering → ℕ → List Exchange → Type 0
AnsweredBy a place [] = Unit {0}
AnsweredBy a place (e ∷ c) = (e.answer ≡ a.answer place e.request) × AnsweredBy a (suc place) c

-- nothing may fail anywhere
abbrev pub NeverFails : Answering → Type 0
NeverFails a = (place : ℕ) → a.fails place ≡ false

-- an exact fault count is unchanged: no call failed
abbrev pub KeepsCount : Link → Link → Type 0
KeepsCount old new = old.exact ≡ true → new.faults ≡ old.faults

-- how it answers, and whether its fault count is exact, is unchanged, and if nothing may fail it had no
-- fault
pub record Steady (old new : Link) : Type 0 where
  pub exact : new.exact ≡ old.exact
  pub steady : (a : Answering) → old.answers ≡ Some a → new.answers ≡ Some a
  pub quiet : (a : Answering) → old.answers ≡ Some a → NeverFails a → new.faults ≡ old.faults

-- if the transport exposes its exchanges, these were added, with the answers by which it answers
pub record Extends (old new : Link) (added : List Exchange) : Type 0 where
  pub told : (before : List Exchange) → old.told ≡ Some before → new.told ≡ Some (before ++ added)
  pub table : (a : Answering) (before : List Exchange) → old.answers ≡ Some a → old.told ≡ Some before
      → AnsweredBy a (length before) added
  pub stays : Steady old new

-- if the transport exposes its exchanges, this is the rest of the last answer's body
abbrev pub LeavesRest : List ℕ → Link → Link → Type 0
LeavesRest rest old new = (before : List Exchange) → old.told ≡ Some before → new.rest ≡ Some rest

-- if the rest of a body is exposed, it is empty
abbrev pub EndsRest : Link → Link → Type 0
EndsRest old new = (rest : List ℕ) → old.rest ≡ Some rest → new.rest ≡ Some []

abbrev pub answer_of : AnswerHead → List ℕ → Answer
answer_of head body = record { status = head.status; headers = head.headers; body = body }

-- an exchange with this request and this answer, if there is one, sent at the current fault count
abbrev pub exchange_of : Request → Option Answer → Link → Exchange
exchange_of request answer old = record { request = request; answer = answer; faults = old.faults }

-- an exchange with this request and an answer with this head, whose body is unread
pub record Answers (request : Request) (head : AnswerHead) (old new : Link) : Type 0 where
  pub body : List ℕ
  pub added : Extends old new (exchange_of request (Some (answer_of head body)) old ∷ [])
  pub rest : LeavesRest body old new
  pub calm : KeepsCount old new

-- an exchange with this request and no answer
abbrev pub AddsUnanswered : Request → Link → Link → Type 0
AddsUnanswered request old new = Extends old new (exchange_of request None old ∷ [])

-- at most one exchange, which has this request
abbrev pub IsAtMost : Request → ℕ → List Exchange → Type 0
IsAtMost request faults [] = Unit {0}
IsAtMost request faults (e ∷ []) = (e.request ≡ request) × (e.faults ≡ faults)
IsAtMost request faults (e ∷ f ∷ c) = ⊥

pub record AddsAtMost (request : Request) (old new : Link) : Type 0 where
  pub conversation : List Exchange
  pub added : Extends old new conversation
  pub most : IsAtMost request old.faults conversation

-- by how the transport answers, this is the answer of the last exchange, and its body is truncated
-- after `bytes` bytes
pub record BreaksOff (e : Exchange) (answer : Answer) (bytes : ℕ) (link : Link) : Type 0 where
  pub table : Answering
  pub before : List Exchange
  pub answers : link.answers ≡ Some table
  pub told : link.told ≡ Some (before ++ e ∷ [])
  pub answered : table.answer (length before) e.request ≡ Some answer
  pub breaks : table.breaks (length before) ≡ Some bytes

-- the rest is exposed, and more than `bytes` bytes of this body were read
abbrev pub IsPast : List ℕ → ℕ → Link → Type 0
IsPast body bytes link = (left : List ℕ) × (link.rest ≡ Some left) × (bytes + length left < length body)

-- the end of the last answer's body was read: if the body is truncated, its fault occurred before, so that
-- the fault count increased since the request was sent, and the rest was no longer exposed
abbrev pub EndsUnbroken : Link → Link → Type 0
EndsUnbroken old new = (e : Exchange) (answer : Answer) (bytes : ℕ) → BreaksOff e answer bytes old
    → Increased e.faults new.faults × (old.rest ≡ None)

-- if the last answer's body is truncated, no bytes after the truncation were read while the rest is
-- exposed
abbrev pub StaysUnbroken : Link → Link → Type 0
StaysUnbroken old new = (e : Exchange) (answer : Answer) (bytes : ℕ) → BreaksOff e answer bytes old
    → IsPast answer.body bytes new → ⊥

-- these pieces, and this one, unless it is empty
abbrev pub with_piece : List (List ℕ) → List ℕ → List (List ℕ)
with_piece pieces [] = pieces
with_piece pieces (b ∷ bytes) = pieces ++ (b ∷ bytes) ∷ []

-- the piece is a prefix of the rest, and an empty one means that nothing was left, and ends
-- the body
pub record Takes (piece : List ℕ) (old new : Link) : Type 0 where
  pub ends : piece ≡ [] → EndsUnbroken old new
  pub unbroken : StaysUnbroken old new
  pub front : (rest : List ℕ) → old.rest ≡ Some rest
      → (left : List ℕ) × (rest ≡ piece ++ left) × (new.rest ≡ Some left) × (piece ≡ [] → rest ≡ [])
  pub returned : (before : List (List ℕ)) → old.pieces ≡ Some before
      → new.pieces ≡ Some (with_piece before piece)
  pub calm : KeepsCount old new

-- more than `limit` bytes were read, none of them after a truncation
pub record TakesPast (limit : ℕ) (old new : Link) : Type 0 where
  pub unbroken : StaysUnbroken old new
  pub past : (rest : List ℕ) → old.rest ≡ Some rest → IsPast rest limit new
  pub calm : KeepsCount old new

-- these bytes were read so far, no call failed, and nothing was sent
pub record HasTaken (bytes : List ℕ) (old new : Link) : Type 0 where
  pub told : new.told ≡ old.told
  pub count : old.faults ≤ new.faults
  pub stays : Steady old new
  pub front : (rest : List ℕ) → old.rest ≡ Some rest
      → (left : List ℕ) × (rest ≡ bytes ++ left) × (new.rest ≡ Some left)
  pub returned : (before : List (List ℕ)) → old.pieces ≡ Some before
      → (pieces : List (List ℕ)) × (bytes ≡ joined pieces) × (new.pieces ≡ Some (before ++ pieces))
  pub calm : KeepsCount old new

-- at most one piece was returned
abbrev pub AtMostOnePiece : Link → Link → Type 0
AtMostOnePiece old new = (before : List (List ℕ)) → old.pieces ≡ Some before
    → (last : List (List ℕ)) × (new.pieces ≡ Some (before ++ last)) × (length last ≤ 1)

-- of the pieces that were returned all but the last have at most `limit` bytes together
abbrev pub AllButLastWithin : ℕ → Link → Link → Type 0
AllButLastWithin limit old new = (before : List (List ℕ)) → old.pieces ≡ Some before
    → (pieces last : List (List ℕ)) × (new.pieces ≡ Some (before ++ pieces ++ last))
    × (length (joined pieces) ≤ limit) × (length last ≤ 1)
