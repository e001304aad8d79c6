use Rattle.std.specs.Prelude.{◌≡◌, ◌≤◌, ℕ, List, [], ◌++◌, Some, Option, length}
use Rattle.oci_transport.specs.Link.{Link, HasTaken, EndsUnbroken}
use Rattle.byte_streams.specs.SinkState.{SinkState, Adds}
use Rattle.oci_names.specs.declared.algorithm.Algorithm.{Algorithm}
use Rattle.oci_digests.specs.declared.both.Digesters.{Digesters}
use Rattle.oci_digests.specs.Both.{BothHold}

-- the bytes `body` were taken, hashed and written to the sink
pub record StreamedSoFar (body : List ℕ) (from to : Digesters) (old new : Link) (before after : SinkState)
    : Type 0 where
  pub taken : HasTaken body old new
  pub put : Adds body before after
  pub count : before.faults ≤ after.faults
  pub hashed : (a : Option Algorithm) (b : Algorithm) → BothHold from a b [] → BothHold to a b body

-- the whole body was, and it has at most `limit` bytes
pub record StreamsBody (limit : ℕ) (from to : Digesters) (old new : Link) (before after : SinkState) : Type 0 where
  pub body : List ℕ
  pub small : length body ≤ limit
  pub whole : (rest : List ℕ) → old.rest ≡ Some rest → body ≡ rest
  pub unbroken : EndsUnbroken old new
  pub put : Adds body before after
  pub hashed : (a : Option Algorithm) (b : Algorithm) → BothHold from a b [] → BothHold to a b body

-- a prefix of the body was written to the sink
pub record StreamsPrefix (old : Link) (before after : SinkState) : Type 0 where
  pub front : List ℕ
  pub part : (rest : List ℕ) → old.rest ≡ Some rest → (left : List ℕ) × (rest ≡ front ++ left)
  pub put : Adds front before after
