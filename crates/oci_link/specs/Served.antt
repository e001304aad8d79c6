-- How a step changes the exchanges of a shelf and the rest of its last answer.
use Rattle.std.specs.Prelude.{◌≡◌, ℕ, ◌+◌, List, [], ◌∷◌, ◌++◌, length, take, drop, Option, Some, None}
use Rattle.oci_transport.specs.Link.{Link}
use Rattle.oci_transport.specs.declared.message.Answer.{Answer}
use Rattle.oci_transport.specs.declared.message.Exchange.{Exchange}
use Rattle.oci_transport.specs.declared.message.Request.{Request}
use Rattle.oci_transport.specs.declared.message.AnswerHead.{AnswerHead}
use Rattle.oci_link.specs.declared.served.Served.{Served}
use Rattle.oci_link.specs.Table.{answer}

-- an exchange at this fault count
abbrev pub exchange_at : Request → Option Answer → ℕ → Exchange
exchange_at request answer faults = record { request = request; answer = answer; faults = faults }

-- the request was added with its answer of the table, which has this head, and whose body is returned next
pub record IsAnswered (request : Request) (head : AnswerHead) (faults : ℕ) (old new : Served) : Type 0 where
  pub shelf : new.shelf ≡ old.shelf
  pub told : new.told ≡ old.told ++ exchange_at request (Some (answer old.shelf request)) faults ∷ []
  pub status : head.status ≡ (answer old.shelf request).status
  pub headers : head.headers ≡ (answer old.shelf request).headers
  pub body : new.body ≡ (answer old.shelf request).body
  pub given : new.given ≡ 0

-- the request was added without an answer, and nothing is returned next
pub record IsUnanswered (request : Request) (faults : ℕ) (old new : Served) : Type 0 where
  pub shelf : new.shelf ≡ old.shelf
  pub told : new.told ≡ old.told ++ exchange_at request None faults ∷ []
  pub body : new.body ≡ []
  pub given : new.given ≡ 0

-- the next 65536 bytes of the body, or its rest, were returned
pub record GivesPiece (piece : List ℕ) (old new : Served) : Type 0 where
  pub shelf : new.shelf ≡ old.shelf
  pub told : new.told ≡ old.told
  pub body : new.body ≡ old.body
  pub piece_is : piece ≡ take 65536 (drop old.given old.body)
  pub given : new.given ≡ old.given + length piece

-- the next 65536 bytes of the rest if it is exposed, or the rest
abbrev pub IsPieceOf : List ℕ → Link → Type 0
IsPieceOf piece old = (rest : List ℕ) → old.rest ≡ Some rest → piece ≡ take 65536 rest
