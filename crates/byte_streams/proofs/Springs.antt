-- The bytes read so far, and those that are left.
use Rattle.std.proofs.Common.{◌≡◌, ℕ, ◌+◌, ◌≤◌, ◌<◌, List, [], ◌++◌, Option, Some, None, length, refl, sym, ap, ◌∙◌, append_assoc, length-append, arith}
use Rattle.std.specs.Io.KnownBytes.{Consumes}
use Rattle.std.specs.Prelude.{◌-◌, take}
use Rattle.std.proofs.lemmas.List.{length-take-le}
use Rattle.byte_streams.specs.Source.{SourceState, Takes}
use Rattle.std.specs.Prelude.{Result, Ok, Err}
use Rattle.std.specs.Result.{IsErr, IsErrAnd}
use Rattle.byte_streams.specs.declared.reading.ReadRefusal.{ReadRefusal}
use Rattle.byte_streams.specs.declared.reading.ReadRefusal.TheVariants.{TooLong, WantOfMemory}
use Rattle.byte_streams.specs.Reading.{Reads}

-- the bytes read are a prefix of the source, and within the limit
pub record ReadSoFar (limit : ℕ) (read : List ℕ) (old new : SourceState) : Type 0 where
  pub within : length read ≤ limit
  pub count : new.faults ≡ old.faults
  pub taken : Consumes old.left new.left read

pub Consumes-none : (left : Option (List ℕ)) → Consumes left left []
Consumes-none None = tt
Consumes-none (Some xs) = refl

pub Consumes-then : (a b c : Option (List ℕ)) (xs ys : List ℕ) → Consumes a b xs → Consumes b c ys → Consumes a c (xs ++ ys)
Consumes-then None b c xs ys first second = tt
Consumes-then (Some as') None c xs ys first second = absurd first
Consumes-then (Some as') (Some bs) None xs ys first second = absurd second
Consumes-then (Some as') (Some bs) (Some cs) xs ys first second = first ∙ ap (λ zs. xs ++ zs) second ∙ sym (append_assoc xs ys cs)

-- the bytes read before, and the next piece
pub piece_taken : (limit n : ℕ) (read room : List ℕ) (a b c : SourceState) → ReadSoFar limit read a b → Takes (take n room) b c → Takes (read ++ take n room) a c
piece_taken limit n read room a b c so_far piece = Consumes-then a.left b.left c.left read (take n room) so_far.taken piece

-- the next piece exceeds the limit
pub more_taken : (limit n : ℕ) (read room : List ℕ) (a b c : SourceState) → ReadSoFar limit read a b → Takes (take n room) b c → c.faults ≡ b.faults → n ≤ length room → limit - length read < n → Reads limit (Err TooLong) a c
more_taken limit n read room a b c so_far piece count most over =
    ((read ++ take n room, piece_taken limit n read room a b c so_far piece, omega (arith, so_far.within, over, length-append read (take n room), length-take-le n room most)), count ∙ so_far.count)

-- the next piece is within the limit, but memory runs out
pub want_taken : (limit n : ℕ) (read room : List ℕ) (a b c : SourceState) (r : Result (List ℕ) ReadRefusal) → IsErr r → IsErrAnd r (λ e. e ≡ WantOfMemory)
    → ReadSoFar limit read a b → Takes (take n room) b c → c.faults ≡ b.faults → n ≤ length room → n ≤ limit - length read → Reads limit r a c
want_taken limit n read room a b c (Ok bytes) err is so_far piece count most under = absurd (cc err)
want_taken limit n read room a b c (Err e) err is so_far piece count most under =
    rw is ((read ++ take n room, piece_taken limit n read room a b c so_far piece, omega (arith, so_far.within, under, length-append read (take n room), length-take-le n room most)), count ∙ so_far.count)
