-- The state of a source, and how a call changes it.
use Rattle.std.specs.Prelude.{ℕ, List, Option}
use Rattle.std.specs.Io.KnownBytes.{Consumes}

-- the bytes that are left, if the source exposes them, and its fault count
pub record SourceState : Type 0 where
  pub left : Option (List ℕ)
  pub faults : ℕ

-- these bytes were read, a prefix of those that were left
abbrev pub Takes : List ℕ → SourceState → SourceState → Type 0
Takes bytes old new = Consumes old.left new.left bytes
