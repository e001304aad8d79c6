-- Which bytes of a blob the requests contained.
use Rattle.std.specs.Prelude.{◌≡◌, ◌<◌, ℕ, List, [], ◌∷◌, ◌++◌, flat_map, length, Some, Result, Ok, Err}
use Rattle.oci_transport.specs.Link.{Link}
use Rattle.oci_transport.specs.declared.message.Answer.{Answer}
use Rattle.oci_transport.specs.declared.message.Exchange.{Exchange}
use Rattle.oci_protocol.specs.Runs.{Told}
use Rattle.push_rows.specs.PieceStates.{part}

-- the bodies of the requests that have one, in order
abbrev pub bodies : List Exchange → List (List ℕ)
bodies c = flat_map (λ (e : Exchange). part e.request.body) c

-- the last response has a body of more than `limit` bytes
pub record LastLong (limit : ℕ) (c : List Exchange) : Type 0 where
  pub before : List Exchange
  pub last : Exchange
  pub split : c ≡ before ++ last ∷ []
  pub answer : Answer
  pub answered : last.answer ≡ Some answer
  pub long : limit < length answer.body

-- the first list is a prefix of the second
abbrev pub IsPrefix : {A : Type 0} → List A → List A → Type 0
IsPrefix {A} first all = (rest : List A) × (all ≡ first ++ rest)

-- If exchanges are exposed, their requests had these bodies, or a prefix of them if the call was refused.
abbrev pub Sends : {A E : Type 0} → List (List ℕ) → Link → Link → Result A E → Type 0
Sends parts old new (Ok a) = Told (λ c. bodies c ≡ parts) old new
Sends parts old new (Err e) = Told (λ c. IsPrefix (bodies c) parts) old new
