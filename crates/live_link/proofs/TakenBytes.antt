-- What was taken so far, and the result of it.
use Rattle.std.proofs.Common.{◌≡◌, ℕ, zero, suc, ◌≤◌, ◌<◌, List, [], ◌∷◌, ◌++◌, length, take, true, ap, ◌∙◌, subst, arith, slice_index_or}
use Rattle.std.specs.Prelude.{Result, Ok, Err}
use Rattle.std.specs.Result.{IsErr, IsErrAnd}
use Rattle.byte_streams.proofs.Springs.{Consumes-then}
use Rattle.byte_streams.specs.Source.{SourceState, Takes}
use Rattle.live_link.specs.Frame.{is_line, most_bytes}
use Rattle.live_link.specs.Parts.{ReadsLine, IsTakenLine}
use Rattle.live_link.specs.declared.reading.FrameError.{FrameError}
use Rattle.live_link.specs.declared.reading.FrameError.TheVariants.{WantOfMemory}

-- a line of at most one byte more than the limit, as far as it was taken
pub record LineSoFar (line : List ℕ) (old new : SourceState) : Type 0 where
  pub taken : Takes line old new
  pub inside : is_line line ≡ true
  pub count : new.faults ≡ old.faults

-- these bytes
pub record BytesSoFar (bytes : List ℕ) (old new : SourceState) : Type 0 where
  pub taken : Takes bytes old new
  pub count : new.faults ≡ old.faults

-- one byte in a buffer of one
pub one_byte : (room : List ℕ) (n b : ℕ) → length room ≡ 1 → n ≤ length room → 0 < n → slice_index_or room 0 0 ≡ b → take n room ≡ b ∷ []
one_byte [] n b one most some is = absurd (omega (arith, one))
one_byte (x ∷ y ∷ room) n b one most some is = absurd (omega (arith, one))
one_byte (x ∷ []) zero b one most some is = absurd (omega (arith, some))
one_byte (x ∷ []) (suc zero) b one most some is = ap (λ y. y ∷ []) is
one_byte (x ∷ []) (suc (suc n)) b one most some is = absurd (omega (arith, most))

pub then_takes : (a b c : SourceState) (xs ys : List ℕ) → Takes xs a b → Takes ys b c → Takes (xs ++ ys) a c
then_takes a b c xs ys first second = Consumes-then a.left b.left c.left xs ys first second

-- the line feed was read
pub line_ends : (line room : List ℕ) (n : ℕ) (a b c : SourceState) → LineSoFar line a b → length line ≤ most_bytes → Takes (take n room) b c → c.faults ≡ b.faults → take n room ≡ 10 ∷ [] → IsTakenLine line a c
line_ends line room n a b c so_far short front count is = record {
  taken = then_takes a b c line (10 ∷ []) so_far.taken (subst (λ xs. Takes xs b c) is front);
  inside = so_far.inside;
  short = short;
  count = count ∙ so_far.count;
}

-- memory ran out for a further byte
pub line_wants : (most n : ℕ) (line room : List ℕ) (a b c : SourceState) (r : Result (List ℕ) FrameError) → IsErr r → IsErrAnd r (λ e. e ≡ WantOfMemory)
    → LineSoFar line a b → Takes (take n room) b c → c.faults ≡ b.faults → ReadsLine most r a c
line_wants most n line room a b c (Ok bytes) err is so_far front count = absurd (cc err)
line_wants most n line room a b c (Err e) err is so_far front count =
    rw is (line ++ take n room, then_takes a b c line (take n room) so_far.taken front, count ∙ so_far.count)
