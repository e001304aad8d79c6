use Rattle.std.proofs.Common.{◌≡◌, ◌<◌, ◌≤◌, ◌+◌, ◌-◌, ℕ, List, [], ◌++◌, Option, Some, length, length-append, refl, sym, ap, ◌∙◌, append-nil, append_assoc, arith}
use Rattle.std.proofs.lemmas.List.{nil_from_length}
use Rattle.oci_transport.specs.Link.{Link, Steady, KeepsCount, Takes, TakesPast, AllButLastWithin}
use Rattle.oci_transport.proofs.TakenBytes.{taken_none, taken_more, taken_ends, taken_past, taken_calm, within_last, within_failed}
use Rattle.byte_streams.specs.SinkState.{SinkState, Adds, AddsPrefix}
use Rattle.byte_streams.proofs.Sinks.{adds_none, adds_more}
use Rattle.oci_names.specs.declared.algorithm.Algorithm.{Algorithm}
use Rattle.oci_digests.specs.declared.both.Digesters.{Digesters}
use Rattle.oci_digests.specs.Both.{BothHold}
use Rattle.oci_protocol.specs.StreamedBody.{StreamedSoFar, StreamsBody, StreamsPrefix}

pub record Poured (limit taken : ℕ) (from to : Digesters) (old new : Link) (before after : SinkState) : Type 0 where
  pub body : List ℕ
  pub taken_is : taken ≡ length body
  pub small : taken ≤ limit
  pub so_far : StreamedSoFar body from to old new before after

pub poured_none : (limit : ℕ) (ds : Digesters) (link : Link) (sink : SinkState) → Poured limit 0 ds ds link link sink sink
poured_none limit ds link sink = record {
  body = [];
  taken_is = refl;
  small = omega arith;
  so_far = record {
    taken = taken_none link;
    put = adds_none sink sink refl;
    count = omega arith;
    hashed = λ a b h. h;
  };
}

pub poured_more : (limit taken : ℕ) (piece : List ℕ) (from to' to : Digesters) (old mid new : Link) (before between after : SinkState) → Poured limit taken from to' old mid before between
    → new.told ≡ mid.told → Steady mid new → mid.faults ≤ new.faults → Takes piece mid new → length piece ≤ limit - taken
    → ((a : Option Algorithm) (b : Algorithm) (m : List ℕ) → BothHold to' a b m → BothHold to a b (m ++ piece))
    → between.faults ≤ after.faults → Adds piece between after
    → Poured limit (taken + length piece) from to old new before after
poured_more limit taken piece from to' to old mid new before between after p told steady count takes small hashes put_count put = record {
  body = p.body ++ piece;
  taken_is = omega (arith, p.taken_is, length-append p.body piece);
  small = omega (arith, p.small);
  so_far = record {
    taken = taken_more p.body piece old mid new p.so_far.taken told steady count takes;
    put = adds_more p.body piece before between after p.so_far.put put;
    count = omega (arith, p.so_far.count);
    hashed = λ a b h. hashes a b p.body (p.so_far.hashed a b h);
  };
}

-- an empty piece ends the body
pub poured_whole : (limit taken : ℕ) (piece : List ℕ) (from to : Digesters) (old mid new : Link) (before after : SinkState) → Poured limit taken from to old mid before after → Takes piece mid new → length piece ≡ 0 → StreamsBody limit from to old new before after
poured_whole limit taken piece from to old mid new before after p takes empty = record {
  body = p.body;
  small = omega (arith, p.small, p.taken_is);
  whole = λ rest h.
      let first = p.so_far.taken.front rest h in
      let none : first.0 ≡ [] = (takes.front first.0 first.2).3 (nil_from_length piece empty) in
      sym (first.1 ∙ ap (λ (r : List ℕ). p.body ++ r) none ∙ append-nil p.body);
  unbroken = taken_ends p.body piece old mid new p.so_far.taken takes empty;
  put = p.so_far.put;
  hashed = p.so_far.hashed;
}

-- what the sink has accepted so far is a prefix of the body
pub poured_front : (limit taken : ℕ) (from to : Digesters) (old mid : Link) (before after new : SinkState) → Poured limit taken from to old mid before after → Adds [] after new → StreamsPrefix old before new
poured_front limit taken from to old mid before after new p none = record {
  front = p.body;
  part = λ rest h. let first = p.so_far.taken.front rest h in (first.0, first.1);
  put = record { took = λ bytes h. none.took (bytes ++ p.body) (p.so_far.put.took bytes h) ∙ ap Some (append-nil (bytes ++ p.body)) };
}

-- this also holds when a prefix of the next piece is added
pub poured_part : (limit taken : ℕ) (piece : List ℕ) (from to : Digesters) (old mid new : Link) (before between after : SinkState) → Poured limit taken from to old mid before between → Takes piece mid new → AddsPrefix piece between after → StreamsPrefix old before after
poured_part limit taken piece from to old mid new before between after p takes part = record {
  front = p.body ++ part.front;
  part = λ rest h.
      let first = p.so_far.taken.front rest h in
      let next = takes.front first.0 first.2 in
      (part.left ++ next.0, first.1 ∙ ap (λ (r : List ℕ). p.body ++ r) (next.1 ∙ ap (λ (r : List ℕ). r ++ next.0) part.split ∙ append_assoc part.front part.left next.0) ∙ sym (append_assoc p.body part.front (part.left ++ next.0)));
  put = adds_more p.body part.front before between after p.so_far.put part.added;
}

pub poured_long : (limit taken : ℕ) (piece : List ℕ) (from to : Digesters) (old mid new : Link) (before after : SinkState) → Poured limit taken from to old mid before after → Takes piece mid new → limit - taken < length piece → TakesPast limit old new
poured_long limit taken piece from to old mid new before after p takes long = taken_past limit p.body piece old mid new p.so_far.taken (omega (arith, p.taken_is, p.small)) takes (omega (arith, p.taken_is, long))

-- no call failed
pub poured_calm : (limit taken : ℕ) (piece : List ℕ) (from to : Digesters) (old mid new : Link) (before after : SinkState) → Poured limit taken from to old mid before after → Takes piece mid new → KeepsCount old new
poured_calm limit taken piece from to old mid new before after p takes = taken_calm p.body piece old mid new p.so_far.taken takes

-- at most one more piece was taken
pub poured_last : (limit taken : ℕ) (piece : List ℕ) (from to : Digesters) (old mid new : Link) (before after : SinkState) → Poured limit taken from to old mid before after → Takes piece mid new → AllButLastWithin limit old new
poured_last limit taken piece from to old mid new before after p takes = within_last limit p.body piece old mid new p.so_far.taken (omega (arith, p.taken_is, p.small)) takes

pub poured_failed : (limit taken : ℕ) (from to : Digesters) (old mid new : Link) (before after : SinkState) → Poured limit taken from to old mid before after → new.pieces ≡ mid.pieces → AllButLastWithin limit old new
poured_failed limit taken from to old mid new before after p same = within_failed limit p.body old mid new p.so_far.taken (omega (arith, p.taken_is, p.small)) same
