-- Bytes of a body, read piece by piece.
use Rattle.std.proofs.Common.{◌≡◌, ◌<◌, ◌≤◌, ◌+◌, ◌-◌, ℕ, List, [], ◌∷◌, ◌++◌, Bool, true, Option, Some, None, length, length-append, append-nil, refl, sym, ap, subst, ◌∙◌, append_assoc, arith}
use Rattle.std.proofs.lemmas.List.{nil_from_length}
use Rattle.oci_transport.specs.Link.{Link, Answering, Steady, KeepsCount, with_piece, HasTaken, Takes, TakesPast, BreaksOff, EndsUnbroken, StaysUnbroken, AtMostOnePiece, AllButLastWithin}
use Rattle.oci_transport.specs.Pieces.{joined}
use Rattle.oci_transport.specs.declared.message.Answer.{Answer}
use Rattle.oci_transport.specs.declared.message.Exchange.{Exchange}

pub Steady-more : (a b c : Link) → Steady a b → Steady b c → Steady a c
Steady-more a b c first second = record {
  steady = λ t h. second.steady t (first.steady t h);
  quiet = λ t h quiet. second.quiet t (first.steady t h) quiet ∙ first.quiet t h quiet;
  exact = second.exact ∙ first.exact;
}

-- an exact count is unchanged in both steps
pub KeepsCount-more : (a b c : Link) → b.exact ≡ a.exact → KeepsCount a b → KeepsCount b c → KeepsCount a c
KeepsCount-more a b c same first second h = second (same ∙ h) ∙ first h

joined-append : (x y : List (List ℕ)) → joined (x ++ y) ≡ joined x ++ joined y
joined-append [] y = refl
joined-append (p ∷ x) y = ap (λ (r : List ℕ). p ++ r) (joined-append x y) ∙ sym (append_assoc p (joined x) (joined y))

-- the pieces with one more
abbrev one_of : List ℕ → List (List ℕ)
one_of [] = []
one_of (b ∷ p) = (b ∷ p) ∷ []

one_few : (piece : List ℕ) → length (one_of piece) ≤ 1
one_few [] = omega arith
one_few (b ∷ p) = omega arith

one_joined : (piece : List ℕ) → piece ≡ joined (one_of piece)
one_joined [] = refl
one_joined (b ∷ p) = sym (append-nil (b ∷ p))

one_with : (pieces : List (List ℕ)) (piece : List ℕ) → with_piece pieces piece ≡ pieces ++ one_of piece
one_with pieces [] = sym (append-nil pieces)
one_with pieces (b ∷ p) = refl

-- the bytes of the piece were read
pub takes_as : {bytes piece : List ℕ} {old new : Link} → bytes ≡ piece → Takes piece old new → Takes bytes old new
takes_as {bytes} {piece} {old} {new} is takes = subst (λ p. Takes p old new) (sym is) takes

-- nothing was read yet
pub taken_none : (link : Link) → HasTaken [] link link
taken_none link = record {
  told = refl;
  count = omega arith;
  stays = record { steady = λ a h. h; quiet = λ a h quiet. refl; exact = refl };
  front = λ rest h. (rest, refl, h);
  returned = λ before h. ([], refl, h ∙ ap Some (sym (append-nil before)));
  calm = λ h. refl;
}

-- a piece was read
pub taken_more : (bytes piece : List ℕ) (old mid new : Link) → HasTaken bytes old mid → new.told ≡ mid.told → Steady mid new → mid.faults ≤ new.faults → Takes piece mid new → HasTaken (bytes ++ piece) old new
taken_more bytes piece old mid new so told steady count takes = record {
  told = told ∙ so.told;
  count = omega (arith, so.count);
  stays = Steady-more old mid new so.stays steady;
  front = λ rest h.
      let first = so.front rest h in
      let next = takes.front first.0 first.2 in
      (next.0, first.1 ∙ ap (λ (r : List ℕ). bytes ++ r) next.1 ∙ sym (append_assoc bytes piece next.0), next.2);
  returned = λ before h.
      let first = so.returned before h in (
        first.0 ++ one_of piece,
        ap (λ (r : List ℕ). r ++ piece) first.1 ∙ ap (λ (r : List ℕ). joined first.0 ++ r) (one_joined piece) ∙ sym (joined-append first.0 (one_of piece)),
        takes.returned (before ++ first.0) first.2 ∙ ap Some (one_with (before ++ first.0) piece ∙ append_assoc before first.0 (one_of piece)),
      );
  calm = KeepsCount-more old mid new so.stays.exact so.calm takes.calm;
}

-- the last answer is unchanged
last_still : (bytes : List ℕ) (old mid : Link) (e : Exchange) (answer : Answer) (broken : ℕ) → HasTaken bytes old mid → BreaksOff e answer broken old → BreaksOff e answer broken mid
last_still bytes old mid e answer broken so b = record { table = b.table; before = b.before; answers = so.stays.steady b.table b.answers; told = so.told ∙ b.told; answered = b.answered; breaks = b.breaks }

some_none : {A : Type 0} {x : A} → None ≡ Some x → ⊥
some_none h = cc h

-- if the answers and the pieces of a transport are not exposed, only the rest and the count are
pub takes_unknown : (piece : List ℕ) (old new : Link) → old.answers ≡ None → old.pieces ≡ None → KeepsCount old new → ((rest : List ℕ) → old.rest ≡ Some rest → (left : List ℕ) × (rest ≡ piece ++ left) × (new.rest ≡ Some left) × (piece ≡ [] → rest ≡ [])) → Takes piece old new
takes_unknown piece old new none hidden calm front = record {
  ends = λ empty e answer broken b. absurd (some_none (sym none ∙ b.answers));
  unbroken = λ e answer broken b past. absurd (some_none (sym none ∙ b.answers));
  front = front;
  returned = λ before h. absurd (some_none (sym hidden ∙ h));
  calm = calm;
}

-- if the rest was exposed, it still is
none_before : (bytes : List ℕ) (old mid : Link) → HasTaken bytes old mid → mid.rest ≡ None → old.rest ≡ None
none_before bytes old mid so none = by old.rest refl where
  by : (rest : Option (List ℕ)) → old.rest ≡ rest → old.rest ≡ None
  by None h = h
  by (Some rest) h = absurd (some_none (sym none ∙ (so.front rest h).2))

-- an empty piece ends the body
pub taken_ends : (bytes piece : List ℕ) (old mid new : Link) → HasTaken bytes old mid → Takes piece mid new → length piece ≡ 0 → EndsUnbroken old new
taken_ends bytes piece old mid new so takes empty e answer broken b =
    let met = takes.ends (nil_from_length piece empty) e answer broken (last_still bytes old mid e answer broken so b) in
    (met.0, none_before bytes old mid so met.1)

-- a piece that is too long exceeds the limit
pub taken_past : (limit : ℕ) (bytes piece : List ℕ) (old mid new : Link) → HasTaken bytes old mid → length bytes ≤ limit → Takes piece mid new → limit - length bytes < length piece → TakesPast limit old new
taken_past limit bytes piece old mid new so small takes long = record {
  unbroken = λ e answer broken b. takes.unbroken e answer broken (last_still bytes old mid e answer broken so b);
  past = λ rest h.
      let first = so.front rest h in
      let next = takes.front first.0 first.2 in
      let all : length rest ≡ length (bytes ++ (piece ++ next.0)) = ap length (first.1 ∙ ap (λ (r : List ℕ). bytes ++ r) next.1) in
      (next.0, next.2, omega (arith, all, length-append bytes (piece ++ next.0), length-append piece next.0, small, long));
  calm = KeepsCount-more old mid new so.stays.exact so.calm takes.calm;
}

-- an exact count is unchanged until a piece was read
pub taken_calm : (bytes piece : List ℕ) (old mid new : Link) → HasTaken bytes old mid → Takes piece mid new → KeepsCount old new
taken_calm bytes piece old mid new so takes = KeepsCount-more old mid new so.stays.exact so.calm takes.calm

-- one call
pub takes_once : (piece : List ℕ) (old new : Link) → Takes piece old new → AtMostOnePiece old new
takes_once piece old new takes before h = (one_of piece, takes.returned before h ∙ ap Some (one_with before piece), one_few piece)

-- a call that failed
pub failed_once : (old new : Link) → new.pieces ≡ old.pieces → AtMostOnePiece old new
failed_once old new same before h = ([], same ∙ h ∙ ap Some (sym (append-nil before)), omega arith)

-- after bytes within the limit at most one more piece was read
pub within_last : (limit : ℕ) (bytes piece : List ℕ) (old mid new : Link) → HasTaken bytes old mid → length bytes ≤ limit → Takes piece mid new → AllButLastWithin limit old new
within_last limit bytes piece old mid new so small takes before h =
    let first = so.returned before h in (
      first.0,
      one_of piece,
      takes.returned (before ++ first.0) first.2 ∙ ap Some (one_with (before ++ first.0) piece),
      omega (arith, ap length first.1, small),
      one_few piece,
    )

-- the call for another one failed
pub within_failed : (limit : ℕ) (bytes : List ℕ) (old mid new : Link) → HasTaken bytes old mid → length bytes ≤ limit → new.pieces ≡ mid.pieces → AllButLastWithin limit old new
within_failed limit bytes old mid new so small same before h =
    let first = so.returned before h in (
      first.0,
      [],
      same ∙ first.2 ∙ ap Some (sym (append-nil (before ++ first.0))),
      omega (arith, ap length first.1, small),
      omega arith,
    )

-- a piece that is not stays within it
pub still_within : (limit : ℕ) (bytes piece : List ℕ) → length bytes ≤ limit → length piece ≤ limit - length bytes → length (bytes ++ piece) ≤ limit
still_within limit bytes piece small fits = omega (arith, length-append bytes piece, small, fits)
