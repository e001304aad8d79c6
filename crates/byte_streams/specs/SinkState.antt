-- What a contract sees of a sink.
use Rattle.std.specs.Prelude.{◌≡◌, ◌<◌, ℕ, List, ◌++◌, length, Option, Some}

-- the bytes that the sink holds, if it exposes them, and its fault count
pub record SinkState : Type 0 where
  pub taken : Option (List ℕ)
  pub faults : ℕ

-- if the sink exposes its bytes, these bytes were appended
pub record Adds (bytes : List ℕ) (old new : SinkState) : Type 0 where
  pub took : (before : List ℕ) → old.taken ≡ Some before → new.taken ≡ Some (before ++ bytes)

-- a prefix of these bytes was appended
pub record AddsPrefix (bytes : List ℕ) (old new : SinkState) : Type 0 where
  pub front : List ℕ
  pub left : List ℕ
  pub split : bytes ≡ front ++ left
  pub added : Adds front old new

-- a proper prefix of these bytes was appended
pub record AddsProperPrefix (bytes : List ℕ) (old new : SinkState) : Type 0 where
  pub front : List ℕ
  pub left : List ℕ
  pub split : bytes ≡ front ++ left
  pub short : 0 < length left
  pub added : Adds front old new
