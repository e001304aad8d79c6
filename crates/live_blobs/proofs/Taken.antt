-- The bytes that were taken of a source, one part after another.
use Rattle.std.proofs.Common.{◌≡◌, ℕ, List, [], ◌++◌, take, refl, ◌∙◌}
use Rattle.byte_streams.proofs.Springs.{Consumes-none, Consumes-then}
use Rattle.byte_streams.specs.Source.{SourceState, Takes}

-- these bytes were taken, and the source did not fail
pub record TakenSoFar (bytes : List ℕ) (old new : SourceState) : Type 0 where
  pub count : new.faults ≡ old.faults
  pub taken : Takes bytes old new

pub none_taken : (s : SourceState) → TakenSoFar [] s s
none_taken s = record { count = refl; taken = Consumes-none s.left }

pub more_taken : (n : ℕ) (bytes room : List ℕ) (a b c : SourceState) → TakenSoFar bytes a b → Takes (take n room) b c → c.faults ≡ b.faults → TakenSoFar (bytes ++ take n room) a c
more_taken n bytes room a b c so_far piece count = record { count = count ∙ so_far.count; taken = Consumes-then a.left b.left c.left bytes (take n room) so_far.taken piece }
