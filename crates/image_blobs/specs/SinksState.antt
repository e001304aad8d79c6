-- What a contract sees of the sinks that a caller opens, one for each blob.
use Rattle.std.specs.Prelude.{◌≡◌, ℕ, Bool, List, ◌++◌, Option, Some}
use Rattle.byte_streams.specs.SinkState.{SinkState}

-- a sink that was closed: the digest that it was opened for, its state, and whether it was closed as having the blob
pub record Closed : Type 0 where
  pub digest : List ℕ
  pub sink : SinkState
  pub stood : Bool

abbrev pub closing : List ℕ → SinkState → Bool → Closed
closing digest sink stood = record { digest = digest; sink = sink; stood = stood }

-- the sinks that were closed, in order, if they are exposed, and the fault count
pub record SinksState : Type 0 where
  pub closed : Option (List Closed)
  pub faults : ℕ

-- if closed sinks are exposed, these were closed
pub record Closes (more : List Closed) (old new : SinksState) : Type 0 where
  pub closed : (before : List Closed) → old.closed ≡ Some before → new.closed ≡ Some (before ++ more)
