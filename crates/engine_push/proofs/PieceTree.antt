-- The pieces of a source, each outcome.
use Rattle.std.proofs.Common.{inl, inr, IfErr, ◌≡◌, ◌≤◌, ◌<◌, ◌+◌, ◌-◌, ℕ, zero, suc, Bool, true, false, List, [], ◌∷◌, ◌++◌, Option, Some, None, Result, Ok, Err, length, refl, sym, ap, subst, ◌∙◌, arith, append_assoc, append-nil, length-append}
use Rattle.std.specs.Prelude.{nat_lt, if◌then◌else◌}
use Rattle.std.specs.Io.KnownBytes.{Consumes, IsAtEnd}
use Rattle.std.specs.Result.{IsErrAnd}
use Rattle.std.proofs.lemmas.Result.{err_from_is_err_and}
use Rattle.std.proofs.lemmas.Bool.Decides.{nat_tests}
use Rattle.json_values.specs.Counts.{Increased}
use Rattle.oci_digests.specs.declared.digester.Digester.{Digester}
use Rattle.oci_names.specs.declared.reference.Reference.{Reference}
use Rattle.oci_transport.specs.Link.{Link}
use Rattle.oci_auth.specs.declared.auth_state.AuthState.{AuthState}
use Rattle.oci_protocol.specs.Proto.{Done, ◌>>=◌}
use Rattle.oci_protocol.specs.Runs.{Meets, Told}
use Rattle.oci_protocol.proofs.Conversations.{Extends-more}
use Rattle.oci_protocol.proofs.Laws.{Meets-consult, Meets-err, Meets-ok, Meets-memory, Meets-refused}
use Rattle.oci_transport.specs.Pieces.{joined}
use Rattle.byte_streams.proofs.Springs.{Consumes-none, Consumes-then}
use Rattle.engine_terms.specs.Contexts.{Context}
use Rattle.engine_terms.specs.Error.{is_memory}
use Rattle.engine_terms.specs.declared.error.OciDistributionError.{OciDistributionError}
use Rattle.engine_terms.specs.declared.error.OciDistributionError.TheVariants as refusal
use Rattle.engine_rows.specs.Rows.{Row}
use Rattle.oci_protocol.proofs.Exits.{refused, and_then, said, done}
use Rattle.engine_rows.proofs.Exits.{wanting}
use Rattle.push_rows.specs.Bodies.{bodies, IsPrefix}
use Rattle.engine_terms.specs.declared.error.GenericCause.TheVariants.{NoSize, SizeDiffers}
use Rattle.oci_transport.specs.declared.message.Exchange.{Exchange}
use Rattle.push_rows.proofs.Endings.{StepTold, told_long}
use Rattle.push_rows.specs.PieceStates.{PieceState, Takes, TakesPieces, NoneAhead, part}
use Rattle.engine_push.specs.Sources.{cuts, AllCut, SomeCut, AllJoined, Cuts, AllGathered, TookMore, NoPiece, NotHeld, NotSent, SourceCause, IsPrefixOf, Pushes, AllConsumed, Hashed, sent_in}
use Rattle.push_rows.specs.Uploads.{Sent, chunks, chunks_sent, piece_of, next_piece, no_longer, unless_last, pieces_sent, all_sent, pieces_read, all_read}
use Rattle.engine_push.specs.declared.pieces.Upload.{Upload}
use Rattle.push_rows.proofs.Carried.{Carries, CarriesFront, carries_none, carries_more, bodies_both, joined_front, joined_one, part_some}
use Rattle.engine_push.proofs.Cuts.{joined_cuts, cuts_one}
use Rattle.engine_push.proofs.Leads.{LeadsTo, leads_start, leads_next}

-- ---- the next piece

pub piece_given : (piece : List ℕ) (link : Link) (k : AuthState) → Meets is_memory next_piece link link k k (Ok piece)
unfolding next_piece
piece_given piece link k = Meets-consult (λ said. Done (piece_of said)) (Some piece) (Meets-ok is_memory link k piece)

pub piece_failed : (link : Link) (k : AuthState) → Meets is_memory next_piece link link k k (Err refusal.SourceFault)
unfolding next_piece
piece_failed link k = Meets-consult (λ said. Done (piece_of said)) None (Meets-err is_memory link k refusal.SourceFault refl)

pub piece_wanting : (link : Link) (k : AuthState) → Meets is_memory next_piece link link k k (Err refusal.WantOfMemory)
piece_wanting link k = Meets-memory is_memory next_piece link k refusal.WantOfMemory refl

is_longer : (left : ℕ) (piece : List ℕ) → left < length piece → no_longer left piece ≡ Err refusal.BodyTooLong
is_longer left piece lt = by_test (nat_lt left (length piece)) refl where
  by_test : (b : Bool) → nat_lt left (length piece) ≡ b → (if b then Err refusal.BodyTooLong else Ok piece) ≡ Err refusal.BodyTooLong
  by_test true is = refl
  by_test false is = absurd (grind (arith, nat_tests, is, lt))

is_no_longer : (left : ℕ) (piece : List ℕ) → length piece ≤ left → no_longer left piece ≡ Ok piece
is_no_longer left piece le = by_test (nat_lt left (length piece)) refl where
  by_test : (b : Bool) → nat_lt left (length piece) ≡ b → (if b then Err refusal.BodyTooLong else Ok piece) ≡ Ok piece
  by_test true is = absurd (grind (arith, nat_tests, is, le))
  by_test false is = refl

is_last : {A : Type 0} (piece : List ℕ) (end next : Row A) → length piece ≡ 0 → unless_last piece end next ≡ end
is_last [] end next none = refl
is_last (x ∷ xs) end next none = absurd (omega (arith, none))

not_last : {A : Type 0} (piece : List ℕ) (end next : Row A) → 0 < length piece → unless_last piece end next ≡ next
not_last [] end next some = absurd (omega (arith, some))
not_last (x ∷ xs) end next some = refl

pub nil_of : (piece : List ℕ) → length piece ≡ 0 → piece ≡ []
nil_of [] none = refl
nil_of (x ∷ xs) none = absurd (omega (arith, none))

-- a piece that is not the last one continues
on_piece : {A : Type 0} {p : Row A} (left : ℕ) (piece : List ℕ) (end : Row A) (next : List ℕ → Row A) {old mid : Link} {k j : AuthState} → 0 < length piece → length piece ≤ left → LeadsTo p (Done (no_longer left piece) >>= λ piece. unless_last piece end (next piece)) old mid k j → LeadsTo p (next piece) old mid k j
on_piece {p = p} left piece end next {mid = mid} {j = j} some small lead = record {
  met = λ new l r h. lead.met new l r (and_then (λ piece. unless_last piece end (next piece)) (said (Ok piece) (is_no_longer left piece small)) (subst (λ row. Meets is_memory row mid new j l r) (sym (not_last piece end (next piece) some)) h));
}

-- the last one ends it
on_last : {A : Type 0} {p : Row A} (left : ℕ) (piece : List ℕ) (end : Row A) (next : List ℕ → Row A) {old mid : Link} {k j : AuthState} → length piece ≡ 0 → LeadsTo p (Done (no_longer left piece) >>= λ piece. unless_last piece end (next piece)) old mid k j → LeadsTo p end old mid k j
on_last left piece end next {mid = mid} {j = j} none lead = record {
  met = λ new l r h. lead.met new l r (and_then (λ piece. unless_last piece end (next piece)) (said (Ok piece) (is_no_longer left piece (omega (arith, none)))) (subst (λ row. Meets is_memory row mid new j l r) (sym (is_last piece end (next piece) none)) h));
}

-- one that is too long is refused
on_longer : {A : Type 0} {p : Row A} (left : ℕ) (piece : List ℕ) (f : List ℕ → Row A) {old mid : Link} {k j : AuthState} → left < length piece → LeadsTo p (Done (no_longer left piece) >>= f) old mid k j → Meets is_memory p old mid k j (Err refusal.BodyTooLong)
on_longer left piece f {mid = mid} {j = j} longer lead = lead.met mid j (Err refusal.BodyTooLong) (Meets-refused f (said (Err refusal.BodyTooLong) (is_longer left piece longer)))

-- ---- pieces that were ahead

pub takes_none : (state : PieceState) → TakesPieces [] state state
takes_none state all is = (all, refl, is)

pub takes_then : (a b c : PieceState) (first second : List (List ℕ)) → TakesPieces first a b → TakesPieces second b c → TakesPieces (first ++ second) a c
takes_then a b c first second before after all is =
    let one = before all is in
    let two = after one.0 one.2 in
    (two.0, one.1 ∙ ap (λ rest. first ++ rest) two.1 ∙ sym (append_assoc first second two.0), two.2)

-- an empty one is none
takes_last : (a b c : PieceState) (pieces : List (List ℕ)) (piece : List ℕ) → TakesPieces pieces a b → TakesPieces (part piece) b c → length piece ≡ 0 → TakesPieces pieces a c
takes_last a b c pieces piece before after none = subst (λ xs. TakesPieces xs a c) (ap (λ last. pieces ++ part last) (nil_of piece none) ∙ append-nil pieces) (takes_then a b c pieces (part piece) before after)

takes_one : (a b c : PieceState) (pieces : List (List ℕ)) (piece : List ℕ) → TakesPieces pieces a b → TakesPieces (part piece) b c → 0 < length piece → TakesPieces (pieces ++ piece ∷ []) a c
takes_one a b c pieces piece before after some = subst (λ xs. TakesPieces (pieces ++ xs) a c) (part_some piece some) (takes_then a b c pieces (part piece) before after)

-- ---- pieces that are sent

-- these pieces were taken and sent
pub record Pumping (s : Context) (image : Reference) (first location : List ℕ) (size : ℕ) (digester : Option Digester) (before now : PieceState) (old mid : Link) (k j : AuthState) : Type 0 where
  pub times : ℕ
  pub bytes : List ℕ
  pub pieces : List (List ℕ)
  pub bytes_are : bytes ≡ joined pieces
  pub size_is : size ≡ length bytes
  pub small : size ≤ s.settings.max_body_bytes
  pub more : s.settings.max_body_bytes - size < times
  pub leads : LeadsTo (all_sent s image first) (pieces_sent times (s.settings.max_body_bytes - size) s image location bytes) old mid k j
  pub hashed : Hashed digester bytes
  pub taken : Takes bytes before now
  pub ahead : TakesPieces pieces before now
  pub carried : Carries (cuts pieces) old mid
  pub count : before.faults ≤ now.faults

pub pumping_start : (s : Context) (image : Reference) (location : List ℕ) (digester : Option Digester) (source : PieceState) (link : Link) (k : AuthState) → Hashed digester [] → Pumping s image location location 0 digester source source link link k k
pumping_start s image location digester source link k hashed = record {
  times = suc s.settings.max_body_bytes;
  bytes = [];
  pieces = [];
  bytes_are = refl;
  size_is = refl;
  small = omega arith;
  more = omega arith;
  leads = let same : s.settings.max_body_bytes ≡ s.settings.max_body_bytes - 0 = omega arith in subst (λ left. LeadsTo (all_sent s image location) (pieces_sent (suc s.settings.max_body_bytes) left s image location []) link link k k) same (leads_start (all_sent s image location) link k);
  hashed = hashed;
  taken = Consumes-none source.left;
  ahead = takes_none source;
  carried = carries_none link;
  count = omega arith;
}

module _ (s : Context) (image : Reference) (first location : List ℕ) (size : ℕ) (digester : Option Digester) {before now : PieceState} {old mid : Link} {k j : AuthState} (pumping : Pumping s image first location size digester before now old mid k j) where
  abbrev left : ℕ
  left = s.settings.max_body_bytes - size

  abbrev End : Row Sent
  End = Done (Ok (record { location = location; bytes = pumping.bytes }))

  abbrev Next : ℕ → List ℕ → Row Sent
  Next n piece = chunks_sent s image location (length pumping.bytes) (chunks piece) >>= λ next. pieces_sent n (left - length piece) s image next (pumping.bytes ++ piece)

  abbrev Asked : ℕ → List ℕ → Row Sent
  Asked n piece = Done (no_longer left piece) >>= λ piece. unless_last piece End (Next n piece)

  record Opened : Type 0 where
    fewer : ℕ
    enough : left ≤ fewer
    leads : LeadsTo (all_sent s image first) (next_piece >>= Asked fewer) old mid k j

  opened : Opened
  unfolding pieces_sent
  opened = by_times pumping.times pumping.more pumping.leads where
    by_times : (times : ℕ) → left < times → LeadsTo (all_sent s image first) (pieces_sent times left s image location pumping.bytes) old mid k j → Opened
    by_times zero more leads = absurd (omega (arith, more))
    by_times (suc n) more leads = record { fewer = n; enough = omega (arith, more); leads = leads }

  asked : (piece : List ℕ) → LeadsTo (all_sent s image first) (Asked opened.fewer piece) old mid k j
  asked piece = leads_next next_piece (Asked opened.fewer) opened.leads (piece_given piece mid j)

  pub pump_refused : (e : OciDistributionError) (r : Result Upload OciDistributionError) → Meets is_memory next_piece mid mid j j (Err e) → IsErrAnd r (λ x. x ≡ e) → Meets is_memory (all_sent s image first) old mid k j (sent_in [] r)
  pump_refused e r met is = let at = err_from_is_err_and r is in rw (at.1, at.2) (opened.leads.met mid j (Err e) (Meets-refused (Asked opened.fewer) met))

  pub pump_longer : (piece : List ℕ) → left < length piece → Meets is_memory (all_sent s image first) old mid k j (Err refusal.BodyTooLong)
  pump_longer piece longer = on_longer left piece _ longer (asked piece)

  pub pump_ended : (piece : List ℕ) → length piece ≡ 0 → Meets is_memory (all_sent s image first) old mid k j (Ok (record { location = location; bytes = pumping.bytes }))
  pump_ended piece none = (on_last left piece End (Next opened.fewer) none (asked piece)).met mid j _ done

  next_sent : (piece : List ℕ) → 0 < length piece → length piece ≤ left → LeadsTo (all_sent s image first) (Next opened.fewer piece) old mid k j
  next_sent piece some small = on_piece left piece End (Next opened.fewer) some small (asked piece)

  pub pump_cut : {new : Link} {l : AuthState} (piece : List ℕ) (e : OciDistributionError) (r : Result Upload OciDistributionError) → 0 < length piece → length piece ≤ left → Meets is_memory (chunks_sent s image location size (chunks piece)) mid new j l (Err e) → IsErrAnd r (λ x. x ≡ e) → Meets is_memory (all_sent s image first) old new k l (sent_in [] r)
  pump_cut {new} {l} piece e r some small met is =
      let at = err_from_is_err_and r is in
      rw (at.1, at.2) ((next_sent piece some small).met new l (Err e) (Meets-refused _ (subst (λ start. Meets is_memory (chunks_sent s image location start (chunks piece)) mid new j l (Err e)) pumping.size_is met)))

  pub pumped : {new : Link} {l : AuthState} {after : PieceState} (piece next : List ℕ) (digester : Option Digester) (count : ℕ) → 0 < length piece → length piece ≤ left → count ≡ size + length piece → Meets is_memory (chunks_sent s image location size (chunks piece)) mid new j l (Ok next) → Carries (chunks piece) mid new → Takes piece now after → TakesPieces (part piece) now after → now.faults ≤ after.faults → Hashed digester (pumping.bytes ++ piece)
      → Pumping s image first next count digester before after old new k l
  pumped {new} {l} {after} piece next digester count some small count_is met sent taken ahead rises hashed =
      let sum : count ≡ length (pumping.bytes ++ piece) = omega (arith, count_is, pumping.size_is, length-append pumping.bytes piece) in
      let rest : left - length piece ≡ s.settings.max_body_bytes - count = omega (arith, count_is) in
      record {
        times = opened.fewer;
        bytes = pumping.bytes ++ piece;
        pieces = pumping.pieces ++ piece ∷ [];
        bytes_are = ap (λ bytes. bytes ++ piece) pumping.bytes_are ∙ sym (joined_one pumping.pieces piece);
        size_is = sum;
        small = omega (arith, count_is, small, pumping.small);
        more = omega (arith, count_is, some, small, opened.enough);
        leads = subst (λ left. LeadsTo (all_sent s image first) (pieces_sent opened.fewer left s image next (pumping.bytes ++ piece)) old new k l) rest (leads_next (chunks_sent s image location (length pumping.bytes) (chunks piece)) _ (next_sent piece some small) (subst (λ start. Meets is_memory (chunks_sent s image location start (chunks piece)) mid new j l (Ok next)) pumping.size_is met));
        hashed = hashed;
        taken = Consumes-then before.left now.left after.left pumping.bytes piece pumping.taken taken;
        ahead = takes_one before now after pumping.pieces piece pumping.ahead ahead some;
        carried = subst (λ parts. Carries parts old new) (sym (cuts_one pumping.pieces piece)) (carries_more pumping.carried sent);
        count = omega (arith, pumping.count, rises);
      }

  -- the bodies are these bytes
  pub pump_bytes : joined (cuts pumping.pieces) ≡ pumping.bytes
  pump_bytes = joined_cuts pumping.pieces ∙ sym pumping.bytes_are

  -- ---- how they were cut

  pub cut_ended : {after : PieceState} (piece : List ℕ) → length piece ≡ 0 → TakesPieces (part piece) now after → (piece ≡ [] → NoneAhead after) → Told (λ c. AllCut before after (bodies c)) old mid
  cut_ended {after} piece none next last = record {
    conversation = pumping.carried.conversation;
    told = pumping.carried.told;
    holds = record { pieces = pumping.pieces; taken = takes_last before now after pumping.pieces piece pumping.ahead next none; cut = pumping.carried.holds; ended = last (nil_of piece none) };
  }

  -- this piece is held, and nothing of it was sent
  pub cut_held : {after : PieceState} (piece : List ℕ) → TakesPieces (part piece) now after → Told (λ c. SomeCut before after (bodies c)) old mid
  cut_held {after} piece next = record {
    conversation = pumping.carried.conversation;
    told = pumping.carried.told;
    holds = record { pieces = pumping.pieces; held = piece; taken = takes_then before now after pumping.pieces (part piece) pumping.ahead next; first = []; of_held = (chunks piece, refl); cut = pumping.carried.holds ∙ sym (append-nil (cuts pumping.pieces)) };
  }

  -- a part of it was sent
  pub cut_part : {after : PieceState} {new : Link} (piece : List ℕ) → TakesPieces (part piece) now after → CarriesFront (chunks piece) mid new → Told (λ c. SomeCut before after (bodies c)) old new
  cut_part {after} {new} piece next sent = record {
    conversation = pumping.carried.conversation ++ sent.conversation;
    told = Extends-more old mid new pumping.carried.conversation sent.conversation pumping.carried.told sent.told;
    holds = record {
      pieces = pumping.pieces;
      held = piece;
      taken = takes_then before now after pumping.pieces (part piece) pumping.ahead next;
      first = bodies sent.conversation;
      of_held = sent.holds;
      cut = bodies_both pumping.carried.conversation sent.conversation ∙ ap (λ xs. xs ++ bodies sent.conversation) pumping.carried.holds;
    };
  }

-- a call that returned an error
pub cuts_refused : {A E : Type 0} (before after : PieceState) {old new : Link} (r : Result A E) (e : E) → IsErrAnd r (λ x. x ≡ e) → Told (λ c. SomeCut before after (bodies c)) old new → Cuts before after old new r
cuts_refused before after r e is told = let at = err_from_is_err_and r is in rw at.1 told

-- ---- pieces that are held in memory

pub record Holding (limit : ℕ) (held : List ℕ) (before now : PieceState) : Type 0 where
  pub times : ℕ
  pub pieces : List (List ℕ)
  pub held_are : held ≡ joined pieces
  pub small : length held ≤ limit
  pub more : limit - length held < times
  pub leads : (link : Link) (k : AuthState) → LeadsTo (all_read limit) (pieces_read times (limit - length held) held) link link k k
  pub taken : Takes held before now
  pub ahead : TakesPieces pieces before now
  pub count : before.faults ≤ now.faults

pub holding_start : (limit : ℕ) (source : PieceState) → Holding limit [] source source
holding_start limit source = record {
  times = suc limit;
  pieces = [];
  held_are = refl;
  small = omega arith;
  more = omega arith;
  leads = λ link k. let same : limit ≡ limit - 0 = omega arith in subst (λ left. LeadsTo (all_read limit) (pieces_read (suc limit) left []) link link k k) same (leads_start (all_read limit) link k);
  taken = Consumes-none source.left;
  ahead = takes_none source;
  count = omega arith;
}

module _ (limit : ℕ) (held : List ℕ) {before now : PieceState} (holding : Holding limit held before now) where
  abbrev room : ℕ
  room = limit - length held

  abbrev Held : Row (List ℕ)
  Held = Done (Ok held)

  abbrev Onward : ℕ → List ℕ → Row (List ℕ)
  Onward n piece = pieces_read n (room - length piece) (held ++ piece)

  abbrev Wanted : ℕ → List ℕ → Row (List ℕ)
  Wanted n piece = Done (no_longer room piece) >>= λ piece. unless_last piece Held (Onward n piece)

  record Begun : Type 0 where
    fewer : ℕ
    enough : room ≤ fewer
    leads : (link : Link) (k : AuthState) → LeadsTo (all_read limit) (next_piece >>= Wanted fewer) link link k k

  begun : Begun
  unfolding pieces_read
  begun = by_times holding.times holding.more holding.leads where
    by_times : (times : ℕ) → room < times → ((link : Link) (k : AuthState) → LeadsTo (all_read limit) (pieces_read times room held) link link k k) → Begun
    by_times zero more leads = absurd (omega (arith, more))
    by_times (suc n) more leads = record { fewer = n; enough = omega (arith, more); leads = leads }

  wanted : (piece : List ℕ) (link : Link) (k : AuthState) → LeadsTo (all_read limit) (Wanted begun.fewer piece) link link k k
  wanted piece link k = leads_next next_piece (Wanted begun.fewer) (begun.leads link k) (piece_given piece link k)

  pub hold_refused : (e : OciDistributionError) (r : Result (List ℕ) OciDistributionError) → ((link : Link) (k : AuthState) → Meets is_memory next_piece link link k k (Err e)) → IsErrAnd r (λ x. x ≡ e) → (link : Link) (k : AuthState) → Meets is_memory (all_read limit) link link k k r
  hold_refused e r met is link k = (begun.leads link k).met link k r (refused (Wanted begun.fewer) (met link k) is)

  pub hold_longer : (piece : List ℕ) → room < length piece → (link : Link) (k : AuthState) → Meets is_memory (all_read limit) link link k k (Err refusal.BodyTooLong)
  hold_longer piece longer link k = on_longer room piece _ longer (wanted piece link k)

  pub hold_ended : (piece : List ℕ) → length piece ≡ 0 → (link : Link) (k : AuthState) → Meets is_memory (all_read limit) link link k k (Ok held)
  hold_ended piece none link k = (on_last room piece Held (Onward begun.fewer) none (wanted piece link k)).met link k _ done

  pub hold_wanting : (r : Result (List ℕ) OciDistributionError) → IsErrAnd r (λ e. e ≡ refusal.WantOfMemory) → (link : Link) (k : AuthState) → Meets is_memory (all_read limit) link link k k r
  hold_wanting r is link k = wanting is

  pub held_more : {after : PieceState} (piece : List ℕ) → 0 < length piece → length piece ≤ room → Takes piece now after → TakesPieces (part piece) now after → now.faults ≤ after.faults → Holding limit (held ++ piece) before after
  held_more {after} piece some small taken ahead rises =
      let sum : length (held ++ piece) ≡ length held + length piece = length-append held piece in
      let rest : room - length piece ≡ limit - length (held ++ piece) = omega (arith, sum) in
      record {
        times = begun.fewer;
        pieces = holding.pieces ++ piece ∷ [];
        held_are = ap (λ bytes. bytes ++ piece) holding.held_are ∙ sym (joined_one holding.pieces piece);
        small = omega (arith, sum, small, holding.small);
        more = omega (arith, sum, some, small, begun.enough);
        leads = λ link k. subst (λ left. LeadsTo (all_read limit) (pieces_read begun.fewer left (held ++ piece)) link link k k) rest (on_piece room piece Held (Onward begun.fewer) some small (wanted piece link k));
        taken = Consumes-then before.left now.left after.left held piece holding.taken taken;
        ahead = takes_one before now after holding.pieces piece holding.ahead ahead some;
        count = omega (arith, holding.count, rises);
      }

  pub gathered : {after : PieceState} (piece : List ℕ) → length piece ≡ 0 → TakesPieces (part piece) now after → (piece ≡ [] → NoneAhead after) → AllJoined before after (part held)
  gathered {after} piece none next last = record { pieces = holding.pieces; taken = takes_last before now after holding.pieces piece holding.ahead next none; whole = ap part holding.held_are; ended = last (nil_of piece none) }

pub gathers_refused : {E : Type 0} (before after : PieceState) (r : Result (List ℕ) E) (e : E) → IsErrAnd r (λ x. x ≡ e) → AllGathered before after r
gathers_refused before after r e is = let at = err_from_is_err_and r is in rw at.1 tt

-- ---- what is left of a source

pub all_taken : (before now after : PieceState) (bytes piece : List ℕ) → Takes bytes before now → Takes piece now after → length piece ≡ 0 → Takes bytes before after
all_taken before now after bytes piece first second none = subst (λ xs. Takes xs before after) (ap (λ xs. bytes ++ xs) (nil_of piece none) ∙ append-nil bytes) (Consumes-then before.left now.left after.left bytes piece first second)

pub front_of_left : (before now : PieceState) (bytes : List ℕ) (parts : List (List ℕ)) {old new : Link} → joined parts ≡ bytes → Takes bytes before now → CarriesFront parts old new → Told (λ c. IsPrefixOf (joined (bodies c)) before.left) old new
front_of_left before now bytes parts {old} {new} is taken told = record { conversation = told.conversation; told = told.told; holds = by_left before.left now.left taken (subst (IsPrefix sent) is (joined_front (bodies told.conversation) parts told.holds)) } where
  sent : List ℕ
  sent = joined (bodies told.conversation)

  by_left : (all rest : Option (List ℕ)) → Consumes all rest bytes → IsPrefix sent bytes → IsPrefixOf sent all
  by_left None rest taken front = tt
  by_left (Some all) None taken front = absurd taken
  by_left (Some all) (Some rest) taken front = (front.0 ++ rest, taken ∙ ap (λ xs. xs ++ rest) front.1 ∙ append_assoc sent front.0 rest)

-- nothing was sent
pub none_of_left : (before : PieceState) {old new : Link} → CarriesFront [] old new → Told (λ c. IsPrefixOf (joined (bodies c)) before.left) old new
none_of_left before told = front_of_left before before [] [] refl (Consumes-none before.left) told

pub pushes_all : (before after : PieceState) (bytes : List ℕ) (parts : List (List ℕ)) {old new : Link} → joined parts ≡ bytes → Takes bytes before after → IsAtEnd after.left → Carries parts old new → Told (λ c. Takes (joined (bodies c)) before after) old new × IsAtEnd after.left
pushes_all before after bytes parts is taken end told = (record { conversation = told.conversation; told = told.told; holds = subst (λ xs. Takes xs before after) (sym (ap joined told.holds ∙ is)) taken }, end)

-- a call that returned an error
pub pushes_refused : {A E : Type 0} (before after : PieceState) {old new : Link} (r : Result A E) (e : E) → IsErrAnd r (λ x. x ≡ e) → Told (λ c. IsPrefixOf (joined (bodies c)) before.left) old new → Pushes before after old new r
pushes_refused before after r e is told = let at = err_from_is_err_and r is in rw at.1 told

pub gives_refused : {E : Type 0} (before after : PieceState) (r : Result (List ℕ) E) (e : E) → IsErrAnd r (λ x. x ≡ e) → AllConsumed before after r
gives_refused before after r e is = let at = err_from_is_err_and r is in rw at.1 tt

rose_on : (a b c : ℕ) → a ≤ b → Increased b c → Increased a c
rose_on a b c le rose = omega (arith, le, rose)

-- ---- refusals

-- with the error of a step
pub err_is : {A : Type 0} (P : OciDistributionError → Type 0) (r : Result A OciDistributionError) (e : OciDistributionError) → IsErrAnd r (λ x. x ≡ e) → P e → IfErr r P
err_is P r e is h = let at = err_from_is_err_and r is in rw (at.1, at.2) h

pub no_piece_held : (limit : ℕ) (before now after : PieceState) (e : OciDistributionError) → before.faults ≤ now.faults → NoPiece now after e → NotHeld limit before after e
no_piece_held limit before now after refusal.SourceFault le h = rose_on before.faults now.faults after.faults le h
no_piece_held limit before now after refusal.WantOfMemory le h = tt
no_piece_held limit before now after _ le h = absurd h

pub no_piece_sent : (limit : ℕ) (before now after : PieceState) (old new : Link) (e : OciDistributionError) → before.faults ≤ now.faults → NoPiece now after e → NotSent limit before after old new e
no_piece_sent limit before now after old new refusal.SourceFault le h = rose_on before.faults now.faults after.faults le h
no_piece_sent limit before now after old new refusal.WantOfMemory le h = tt
no_piece_sent limit before now after old new _ le h = absurd h

pub took_more : (limit : ℕ) (before now after : PieceState) (pieces : List (List ℕ)) (bytes piece : List ℕ) → bytes ≡ joined pieces → Takes bytes before now → TakesPieces pieces before now → Takes piece now after → TakesPieces (part piece) now after → length bytes ≤ limit → limit < length bytes + length piece → TookMore limit before after
took_more limit before now after pieces bytes piece is first ahead second next le lt = record {
  pieces = pieces;
  last = piece;
  taken = takes_one before now after pieces piece ahead next (omega (arith, le, lt));
  bytes = subst (λ xs. Takes (xs ++ piece) before after) is (Consumes-then before.left now.left after.left bytes piece first second);
  within = subst (λ xs. length xs ≤ limit) is le;
  exceeds = subst (λ xs. limit < length (xs ++ piece)) is (omega (arith, lt, length-append bytes piece));
}

pub step_sent : (limit : ℕ) (before after : PieceState) (old new : Link) (e : OciDistributionError) → StepTold limit old new e → NotSent limit before after old new e
step_sent limit before after old new refusal.BodyTooLong h = inr h
step_sent limit before after old new refusal.SourceFault h = absurd h
step_sent limit before after old new refusal.PushNoDataError h = h
step_sent limit before after old new (refusal.GenericError NoSize) h = h
step_sent limit before after old new (refusal.GenericError SizeDiffers) h = h
step_sent limit before after old new _ h = tt

pub step_behind : (limit : ℕ) (P : List Exchange → Type 0) (old mid new : Link) (e : OciDistributionError) → Told P old mid → StepTold limit mid new e → StepTold limit old new e
step_behind limit P old mid new refusal.BodyTooLong told h = told_long limit P told h
step_behind limit P old mid new refusal.SourceFault told h = h
step_behind limit P old mid new refusal.PushNoDataError told h = h
step_behind limit P old mid new (refusal.GenericError NoSize) told h = h
step_behind limit P old mid new (refusal.GenericError SizeDiffers) told h = h
step_behind limit P old mid new _ told h = tt

pub sent_behind : (limit : ℕ) (before after : PieceState) (P : List Exchange → Type 0) (old mid new : Link) (e : OciDistributionError) → Told P old mid → NotSent limit before after mid new e → NotSent limit before after old new e
sent_behind limit before after P old mid new refusal.BodyTooLong told (inl h) = inl h
sent_behind limit before after P old mid new refusal.BodyTooLong told (inr h) = inr (told_long limit P told h)
sent_behind limit before after P old mid new refusal.SourceFault told h = h
sent_behind limit before after P old mid new refusal.PushNoDataError told h = h
sent_behind limit before after P old mid new (refusal.GenericError NoSize) told h = h
sent_behind limit before after P old mid new (refusal.GenericError SizeDiffers) told h = h
sent_behind limit before after P old mid new _ told h = tt

pub sent_source : (limit : ℕ) (size : Option ℕ) (before after : PieceState) (old new : Link) (e : OciDistributionError) → NotSent limit before after old new e → SourceCause limit size before after old new e
sent_source limit size before after old new refusal.PushNoDataError h = absurd h
sent_source limit size before after old new (refusal.GenericError NoSize) h = absurd h
sent_source limit size before after old new (refusal.GenericError SizeDiffers) h = absurd h
sent_source limit size before after old new _ h = h

pub held_source : (limit : ℕ) (size : Option ℕ) (before after : PieceState) (old new : Link) (e : OciDistributionError) → NotHeld limit before after e → SourceCause limit size before after old new e
held_source limit size before after old new refusal.SourceFault h = h
held_source limit size before after old new refusal.BodyTooLong h = inl h
held_source limit size before after old new refusal.WantOfMemory h = tt
held_source limit size before after old new _ h = absurd h

pub step_source : (limit : ℕ) (size : Option ℕ) (before after : PieceState) (old new : Link) (e : OciDistributionError) → StepTold limit old new e → SourceCause limit size before after old new e
step_source limit size before after old new e h = sent_source limit size before after old new e (step_sent limit before after old new e h)
