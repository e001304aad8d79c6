use Rattle.std.proofs.Common.{◌≡◌, ℕ, ◌+◌, ◌≤◌, ◌<◌, ◌-◌, List, [], ◌++◌, Some, refl, length, take, drop, sym, ap, ◌∙◌, append-nil, append_assoc, arith, length-drop}
use Rattle.std.proofs.Math.Seq.{take-add}
use Rattle.std.proofs.lemmas.List.{take-append-drop, take_all}
use Rattle.byte_streams.specs.SinkState.{SinkState, Adds, AddsPrefix, AddsProperPrefix}

-- the first `at` bytes of the piece were written
pub record PutSoFar (piece : List ℕ) (at : ℕ) (old new : SinkState) : Type 0 where
  pub within : at ≤ length piece
  pub steady : new.faults ≡ old.faults
  pub added : Adds (take at piece) old new

pub put_none : (piece : List ℕ) (sink : SinkState) → PutSoFar piece 0 sink sink
put_none piece sink = record { within = omega arith; steady = refl; added = record { took = λ before h. h ∙ ap Some (sym (append-nil before)) } }

-- adding no bytes
pub adds_none : (old new : SinkState) → new.taken ≡ old.taken → Adds [] old new
adds_none old new is = record { took = λ before h. is ∙ h ∙ ap Some (sym (append-nil before)) }

pub adds_more : (a b : List ℕ) (old mid new : SinkState) → Adds a old mid → Adds b mid new → Adds (a ++ b) old new
adds_more a b old mid new first second = record { took = λ before h. second.took (before ++ a) (first.took before h) ∙ ap Some (append_assoc before a b) }

pub put_more : (piece : List ℕ) (at n : ℕ) (old mid new : SinkState) → PutSoFar piece at old mid → n ≤ length (drop at piece) → new.faults ≡ mid.faults → Adds (take n (drop at piece)) mid new → PutSoFar piece (at + n) old new
put_more piece at n old mid new so le same added = record {
  within = omega (arith, length-drop at piece, so.within);
  steady = same ∙ so.steady;
  added = rw (take-add at n piece) (adds_more (take at piece) (take n (drop at piece)) old mid new so.added added);
}

pub put_whole : (piece : List ℕ) (at : ℕ) (old new : SinkState) → PutSoFar piece at old new → length piece ≤ at → Adds piece old new
put_whole piece at old new so le = rw (take_all at piece le) at so.added

pub whole_front : (piece : List ℕ) (old new : SinkState) → Adds piece old new → AddsPrefix piece old new
whole_front piece old new added = record { front = piece; left = []; split = sym (append-nil piece); added = added }

pub put_front : (piece : List ℕ) (at : ℕ) (old mid new : SinkState) → PutSoFar piece at old mid → new.taken ≡ mid.taken → AddsPrefix piece old new
put_front piece at old mid new so same = record {
  front = take at piece;
  left = drop at piece;
  split = sym (take-append-drop at piece);
  added = record { took = λ before h. same ∙ so.added.took before h };
}

pub put_part : (piece : List ℕ) (at : ℕ) (old mid new : SinkState) → PutSoFar piece at old mid → at < length piece → new.taken ≡ mid.taken → AddsProperPrefix piece old new
put_part piece at old mid new so short same = record {
  front = take at piece;
  left = drop at piece;
  split = sym (take-append-drop at piece);
  short = omega (arith, length-drop at piece, short);
  added = record { took = λ before h. same ∙ so.added.took before h };
}

-- the rest of the piece, as a slice of it
rest_is : (piece : List ℕ) (at : ℕ) → take (length piece - at) (drop at piece) ≡ drop at piece
rest_is piece at = take_all (length piece - at) (drop at piece) (omega (arith, length-drop at piece))

pub put_next : (piece : List ℕ) (at n : ℕ) (old mid new : SinkState) → PutSoFar piece at old mid → n ≤ length (take (length piece - at) (drop at piece)) → new.faults ≡ mid.faults → Adds (take n (take (length piece - at) (drop at piece))) mid new → PutSoFar piece (at + n) old new
put_next piece at n old mid new so within same added =
    let rest = rest_is piece at in put_more piece at n old mid new so (rw rest at within) same (rw rest at added)
