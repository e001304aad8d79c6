-- Until a fault of a script occurs, it gives no bytes after the truncation of a body, and not its end.
use Rattle.std.proofs.Common.{◌≡◌, ◌≤◌, ◌<◌, ◌+◌, ℕ, suc, zero, Bool, true, false, List, [], ◌∷◌, ◌++◌, length, slice_get, take, drop, Some, None, Option, if◌then◌else◌, refl, sym, ap, subst, ◌∙◌, arith}
use Rattle.std.specs.Prelude.{◌&&◌, nat_le, nat_eq, is_some, option_map}
use Rattle.std.proofs.Common.{length-append, get_or}
use Rattle.std.proofs.lemmas.List.{at_drop_more}
use Rattle.std.specs.Option.{option_eq}
use Rattle.std.proofs.lemmas.Bool.Decides.{nat_tests}
use Rattle.json_values.specs.Counts.{incremented, Increased}
use Rattle.oci_transport.specs.Link.{Link, Answering, BreaksOff, EndsUnbroken, StaysUnbroken, with_piece, Takes}
use Rattle.oci_transport.specs.Pieces.{NoneEmpty, joined}
use Rattle.oci_transport.proofs.ScriptAnswers.{body_of, length_next}
use Rattle.oci_transport.specs.Recorded.{bytes_within, break_of, fails_before_of, stop_within, pieces_of, answering, last_stop, last_pieces, last_count, not_past, met, HasMet}
use Rattle.oci_transport.specs.declared.recorded.Recorded.{Recorded}
use Rattle.oci_transport.specs.declared.message.Exchange.{Exchange}
use Rattle.oci_transport.specs.declared.message.Answer.{Answer}

le_true : (m n : ℕ) → m ≤ n → nat_le m n ≡ true
le_true m n h = grind (arith, nat_tests, h)

le_of : (m n : ℕ) → nat_le m n ≡ true → m ≤ n
le_of m n h = grind (arith, nat_tests, h)

both : (a b : Bool) → a ≡ true → b ≡ true → (a && b) ≡ true
both a b h g = rw (h, g) refl

parts : (a b : Bool) → (a && b) ≡ true → (a ≡ true) × (b ≡ true)
parts true b h = (refl, h)
parts false b h = cc h

count_last : (c : List Exchange) (e : Exchange) (n : ℕ) → last_count (c ++ e ∷ []) n ≡ e.faults
count_last [] e n = refl
count_last (x ∷ []) e n = refl
count_last (x ∷ y ∷ c) e n = count_last (y ∷ c) e n

none_past : (stop : Option ℕ) → not_past stop 0 ≡ true
none_past None = refl
none_past (Some n) = le_true 0 n (omega arith)

-- a request was sent, at this count
pub met_sent : (items : List Recorded) (told : List Exchange) (e : Exchange) (count : ℕ) → e.faults ≤ count → HasMet items (told ++ e ∷ []) 0 false count
met_sent items told e count le = both _ _ (ap (λ n. nat_le n count) (count_last told e count) ∙ le_true e.faults count le) (none_past (last_stop items (length (told ++ e ∷ []))))

-- the number of pieces before which a call fails, if it has not failed yet
abbrev stop_by : Bool → Option ℕ → Option ℕ
stop_by stopped last = if stopped then None else last

count_any : (e : Exchange) (c : List Exchange) (m n : ℕ) → last_count (e ∷ c) m ≡ last_count (e ∷ c) n
count_any e [] m n = refl
count_any e (x ∷ c) m n = count_any x c m n

met_fault : (stopped : Bool) (last : Option ℕ) (given sent count : ℕ) → option_eq nat_eq (stop_by stopped last) (Some given) ≡ true → met last given stopped sent count ≡ true → met last given true sent (incremented count) ≡ true
met_fault true last given sent count same h = absurd (cc same)
met_fault false last given sent count same h =
    let le : sent ≤ count = le_of sent count (parts (nat_le sent count) (not_past last given) h).0 in
    le_true (incremented sent) (incremented count) (omega (arith, le))

-- a fault occurred
pub met_stop : (items : List Recorded) (told : List Exchange) (given : ℕ) (stopped : Bool) (count : ℕ) (stop : Option ℕ) → stop ≡ (if stopped then None else last_stop items (length told)) → option_eq nat_eq stop (Some given) ≡ true → HasMet items told given stopped count → HasMet items told given true (incremented count)
met_stop items [] given true count stop is same h = absurd (cc (is, same))
met_stop items [] given false count stop is same h = absurd (cc (is, same))
met_stop items (e ∷ c) given stopped count stop is same h =
    met_fault stopped (last_stop items (length (e ∷ c))) given (last_count (e ∷ c) (incremented count)) count (rw is at same) (ap (λ n. met (last_stop items (length (e ∷ c))) given stopped n count) (count_any e c (incremented count) count) ∙ h)

past_more : (last : Option ℕ) (given : ℕ) → option_eq nat_eq last (Some given) ≡ false → not_past last given ≡ true → not_past last (given + 1) ≡ true
past_more None given other h = refl
past_more (Some n) given other h = grind (arith, nat_tests, other, h)

met_more : (stopped : Bool) (last : Option ℕ) (given sent count : ℕ) → option_eq nat_eq (stop_by stopped last) (Some given) ≡ false → met last given stopped sent count ≡ true → met last (given + 1) stopped sent count ≡ true
met_more true last given sent count other h = h
met_more false last given sent count other h =
    let halves = parts (nat_le sent count) (not_past last given) h in
    both (nat_le sent count) (not_past last (given + 1)) halves.0 (past_more last given other halves.1)

-- a piece was returned
pub met_given : (items : List Recorded) (told : List Exchange) (given : ℕ) (stopped : Bool) (count : ℕ) (stop : Option ℕ) → stop ≡ (if stopped then None else last_stop items (length told)) → option_eq nat_eq stop (Some given) ≡ false → HasMet items told given stopped count → HasMet items told (given + 1) stopped count
met_given items told given stopped count stop is other h = met_more stopped (last_stop items (length told)) given (last_count told count) count (rw is at other) h

within_bound : (before : Option ℕ) (count n : ℕ) → stop_within before count ≡ Some n → n ≤ count
within_bound None count n h = absurd (cc h)
within_bound (Some m) count n h = by (nat_le m count) refl h where
  by : (b : Bool) → nat_le m count ≡ b → (if b then Some m else None) ≡ Some n → n ≤ count
  by true small h = let is : m ≡ n = cc h in omega (arith, is, le_of m count small)
  by false large h = absurd (cc h)

stop_bound : (o : Option Recorded) (n : ℕ) → fails_before_of o ≡ Some n → n ≤ length (pieces_of o)
stop_bound None n h = absurd (cc h)
stop_bound (Some r) n h = by r.fails h where
  by : (b : Bool) → (if b then None else stop_within r.fails_before (length r.pieces)) ≡ Some n → n ≤ length (if b then [] else r.pieces)
  by true h = absurd (cc h)
  by false h = within_bound r.fails_before (length r.pieces) n h

rose_of : (o : Option Recorded) (stopped : Bool) (given sent count : ℕ) → option_eq nat_eq (stop_by stopped (fails_before_of o)) (Some given) ≡ false → length (pieces_of o) ≤ given → is_some (fails_before_of o) ≡ true → met (fails_before_of o) given stopped sent count ≡ true → Increased sent count × (stopped ≡ true)
rose_of o true given sent count other all breaks h = (le_of (incremented sent) count h, refl)
rose_of o false given sent count other all breaks h = by (fails_before_of o) refl other breaks (parts (nat_le sent count) (not_past (fails_before_of o) given) h).1 where
  by : (last : Option ℕ) → fails_before_of o ≡ last → option_eq nat_eq last (Some given) ≡ false → is_some last ≡ true → not_past last given ≡ true → Increased sent count × (false ≡ true)
  by None is other breaks past = absurd (cc breaks)
  by (Some n) is other breaks past =
      let bound : n ≤ length (pieces_of o) = stop_bound o n is in
      let small : given ≤ n = le_of given n past in
      let same : given ≡ n = omega (arith, bound, small, all) in
      let equal : option_eq nat_eq (Some n) (Some given) ≡ true = (grind (arith, nat_tests, same)) in
      absurd (cc (other, equal))

some_is : {A : Type 0} (x y : A) → Some x ≡ Some y → x ≡ y
some_is x y h = cc h

-- no piece is left
drop_past : {A : Type 0} (n : ℕ) (xs : List A) → length xs ≤ n → drop n xs ≡ []
drop_past zero [] h = refl
drop_past zero (x ∷ xs) h = absurd (omega (arith, h))
drop_past (suc n) [] h = refl
drop_past (suc n) (x ∷ xs) h = drop_past n xs (omega (arith, h))

-- the rest of a body, exposed until its fault
abbrev pub rest_by : Bool → ℕ → List (List ℕ) → Option (List ℕ)
rest_by stopped given pieces = if stopped then None else Some (joined (drop given pieces))

exposed : (stopped : Bool) (given : ℕ) (pieces : List (List ℕ)) (rest : List ℕ) → rest_by stopped given pieces ≡ Some rest → (stopped ≡ false) × (rest ≡ joined (drop given pieces))
exposed true given pieces rest h = absurd (cc h)
exposed false given pieces rest h = (refl, sym (some_is _ _ h))

pub none_left : (pieces : List (List ℕ)) (given : ℕ) → length pieces ≤ given → joined (drop given pieces) ≡ []
none_left pieces given all = ap joined (drop_past given pieces all)

pub takes_none : (stopped : Bool) (pieces : List (List ℕ)) (given : ℕ) (link : Link) → length pieces ≤ given → link.rest ≡ rest_by stopped given pieces → EndsUnbroken link link → StaysUnbroken link link → Takes [] link link
takes_none stopped pieces given link all rest ends unbroken = record {
  ends = λ none. ends;
  unbroken = unbroken;
  front = λ left h. (left, refl, h, λ none. (exposed stopped given pieces left (sym rest ∙ h)).1 ∙ none_left pieces given all);
  returned = λ before h. h;
  calm = λ h. refl;
}

-- where the answer of the last of these exchanges is truncated
record LastOf (items : List Recorded) (told : List Exchange) (count : ℕ) (e : Exchange) (body : List ℕ) (bytes : ℕ) : Type 0 where
  place : ℕ
  sent_is : length told ≡ suc place
  count_is : last_count told count ≡ e.faults
  body_is : joined (pieces_of (slice_get items place)) ≡ body
  break_is : break_of (slice_get items place) ≡ Some bytes

last_of : (items : List Recorded) (told : List Exchange) (count : ℕ) (old : Link) → old.answers ≡ Some (answering items) → old.told ≡ Some told → (e : Exchange) (answer : Answer) (bytes : ℕ) → BreaksOff e answer bytes old → LastOf items told count e answer.body bytes
unfolding answering
last_of items told count old answers telling e answer bytes b =
    let told_is : told ≡ b.before ++ e ∷ [] = some_is _ _ (sym telling ∙ b.told) in
    let table : answering items ≡ b.table = some_is _ _ (sym answers ∙ b.answers) in
    record {
      place = length b.before;
      sent_is = ap length told_is ∙ length_next b.before e;
      count_is = ap (λ c. last_count c count) told_is ∙ count_last b.before e count;
      body_is = body_of (slice_get items (length b.before)) answer (ap (λ (t : Answering). t.answer (length b.before) e.request) table ∙ b.answered);
      break_is = ap (λ (t : Answering). t.breaks (length b.before)) table ∙ b.breaks;
    }

-- a truncation is given by a number of pieces
break_some : (pieces : List (List ℕ)) (o : Option ℕ) (bytes : ℕ) → option_map (bytes_within pieces) o ≡ Some bytes → is_some o ≡ true
break_some pieces None bytes h = cc h
break_some pieces (Some n) bytes h = refl

pub ends_unbroken : (items : List Recorded) (told : List Exchange) (given : ℕ) (stopped : Bool) (count : ℕ) (stop : Option ℕ) → stop ≡ (if stopped then None else last_stop items (length told)) → option_eq nat_eq stop (Some given) ≡ false → HasMet items told given stopped count
    → length (last_pieces items (length told)) ≤ given → (old new : Link) → old.answers ≡ Some (answering items) → old.told ≡ Some told → new.faults ≡ count → old.rest ≡ rest_by stopped given (last_pieces items (length told)) → EndsUnbroken old new
ends_unbroken items told given stopped count stop is other h all old new answers telling faults rest e answer bytes b =
    let l = last_of items told count old answers telling e answer bytes b in
    let rose : Increased (last_count told count) count × (stopped ≡ true) = rose_of (slice_get items l.place) stopped given (last_count told count) count
    (ap (λ n. option_eq nat_eq (stop_by stopped (last_stop items n)) (Some given)) (sym l.sent_is) ∙ rw is at other)
    (rw l.sent_is at all)
    (break_some (pieces_of (slice_get items l.place)) (fails_before_of (slice_get items l.place)) bytes l.break_is)
    (ap (λ n. met (last_stop items n) given stopped (last_count told count) count) (sym l.sent_is) ∙ h) in
    (rw (← l.count_is, faults) rose.0, rest ∙ ap (λ s. rest_by s given (last_pieces items (length told))) rose.1)

-- the bytes of a prefix of the pieces, and of the others
bytes_split : (n : ℕ) (pieces : List (List ℕ)) → bytes_within pieces n + length (joined (drop n pieces)) ≡ length (joined pieces)
bytes_split zero pieces = omega arith
bytes_split (suc n) [] = refl
bytes_split (suc n) (p ∷ ps) = omega (arith, bytes_split n ps, length-append p (joined (take n ps)), length-append p (joined ps))

bytes_more : (m n : ℕ) (pieces : List (List ℕ)) → m ≤ n → bytes_within pieces m ≤ bytes_within pieces n
bytes_more zero n pieces h = omega arith
bytes_more (suc m) zero pieces h = absurd (omega (arith, h))
bytes_more (suc m) (suc n) [] h = omega arith
bytes_more (suc m) (suc n) (p ∷ ps) h = omega (arith, bytes_more m n ps (omega (arith, h)), length-append p (joined (take m ps)), length-append p (joined (take n ps)))

-- no bytes after the truncation before the fault
rose_past : (pieces : List (List ℕ)) (stop : Option ℕ) (given sent count bytes : ℕ) → option_map (bytes_within pieces) stop ≡ Some bytes → bytes + length (joined (drop given pieces)) < length (joined pieces) → met stop given false sent count ≡ true → ⊥
rose_past pieces None given sent count bytes is past h = cc is
rose_past pieces (Some n) given sent count bytes is past h =
    let small : given ≤ n = le_of given n (parts (nat_le sent count) (nat_le given n) h).1 in
    let bytes_is : bytes_within pieces n ≡ bytes = some_is _ _ is in
    omega (arith, past, bytes_is, bytes_more given n pieces small, bytes_split given pieces)

pub stays_unbroken : (items : List Recorded) (told : List Exchange) (given : ℕ) (stopped : Bool) (count : ℕ) → HasMet items told given stopped count → (old new : Link) → old.answers ≡ Some (answering items) → old.told ≡ Some told → new.rest ≡ rest_by stopped given (last_pieces items (length told)) → StaysUnbroken old new
stays_unbroken items told given stopped count h old new answers telling rest e answer bytes b past =
    let l = last_of items told count old answers telling e answer bytes b in
    let shown = exposed stopped given (last_pieces items (length told)) past.0 (sym rest ∙ past.1) in
    let left : past.0 ≡ joined (drop given (pieces_of (slice_get items l.place))) = shown.1 ∙ ap (λ n. joined (drop given (last_pieces items n))) l.sent_is in
    let behind : bytes + length (joined (drop given (pieces_of (slice_get items l.place)))) < length (joined (pieces_of (slice_get items l.place))) = omega (arith, ap length left, ap length l.body_is, past.2) in
    rose_past (pieces_of (slice_get items l.place)) (fails_before_of (slice_get items l.place)) given (last_count told count) count bytes l.break_is behind
    (ap (λ n. met (last_stop items n) given false (last_count told count) count) (sym l.sent_is) ∙ rw shown.0 at h)

pub joined_at : (n : ℕ) (pieces : List (List ℕ)) (piece : List ℕ) → n < length pieces → piece ≡ get_or pieces n piece → joined (drop n pieces) ≡ piece ++ joined (drop (n + 1) pieces)
joined_at n pieces piece h is = at_drop_more joined pieces n piece h ∙ ap (λ p. p ++ joined (drop (n + 1) pieces)) (sym is)

-- a piece of a body is not empty
pub some_in : (pieces : List (List ℕ)) (given : ℕ) (piece : List ℕ) → NoneEmpty pieces → given < length pieces → piece ≡ get_or pieces given piece → 0 < length piece
some_in pieces given piece full within is = subst (λ p. 0 < length p) (sym is) (full given piece within)

next_is : (n : ℕ) → n + 1 ≡ suc n
next_is n = omega arith

take_next : (n : ℕ) (pieces : List (List ℕ)) (piece : List ℕ) → n < length pieces → piece ≡ get_or pieces n piece → take (suc n) pieces ≡ take n pieces ++ piece ∷ []
take_next n [] piece h is = absurd (omega (arith, h))
take_next zero (p ∷ ps) piece h is = ap (λ (q : List ℕ). q ∷ []) (sym is)
take_next (suc n) (p ∷ ps) piece h is = ap (λ (qs : List (List ℕ)). p ∷ qs) (take_next n ps piece (omega (arith, h)) is)

with_some : (pieces : List (List ℕ)) (piece : List ℕ) → 0 < length piece → with_piece pieces piece ≡ pieces ++ piece ∷ []
with_some pieces [] h = absurd (omega (arith, h))
with_some pieces (b ∷ p) h = refl

rest_next : (stopped : Bool) (given : ℕ) (pieces : List (List ℕ)) (all : List ℕ) → rest_by stopped given pieces ≡ Some all → rest_by stopped (given + 1) pieces ≡ Some (joined (drop (given + 1) pieces))
rest_next true given pieces all h = absurd (cc h)
rest_next false given pieces all h = refl

-- the next piece is taken
pub takes_next : (stopped : Bool) (pieces : List (List ℕ)) (given : ℕ) (piece : List ℕ) (old new : Link) → NoneEmpty pieces → old.rest ≡ rest_by stopped given pieces → new.rest ≡ rest_by stopped (given + 1) pieces → old.pieces ≡ Some (take given pieces) → new.pieces ≡ Some (take (given + 1) pieces) → new.faults ≡ old.faults
    → given < length pieces → piece ≡ get_or pieces given piece → StaysUnbroken old new → Takes piece old new
takes_next stopped pieces given piece old new full rest left shown grown calm within is unbroken =
    let some : 0 < length piece = some_in pieces given piece full within is in
    record {
      ends = λ none. absurd (omega (arith, some, ap length none));
      unbroken = unbroken;
      front = λ all h. (joined (drop (given + 1) pieces), (exposed stopped given pieces all (sym rest ∙ h)).1 ∙ joined_at given pieces piece within is, left ∙ rest_next stopped given pieces all (sym rest ∙ h), λ none. absurd (omega (arith, some, ap length none)));
      returned = λ before h. grown ∙ ap Some (ap (λ n. take n pieces) (next_is given) ∙ take_next given pieces piece within is ∙ ap (λ (ps : List (List ℕ)). ps ++ piece ∷ []) (some_is _ _ (sym shown ∙ h)) ∙ sym (with_some before piece some));
      calm = λ h. calm;
    }
