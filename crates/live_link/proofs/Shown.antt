-- What a transport exposes after a request and after a piece.
use Rattle.std.proofs.Common.{◌≡◌, ℕ, true, List, [], ◌∷◌, ◌++◌, map, Option, Some, None, refl, sym, ap, subst, ◌∙◌, append-nil}
use Rattle.std.specs.Prelude.{is_some, option_map, unwrap_or, Result, Ok, Err}
use Rattle.std.specs.Coded.{Coded-set, coded_bool}
use Rattle.std.specs.Io.KnownBytes.{Consumes}
use Rattle.std.proofs.Math.Logic.{∥∥₁_elim}
use Rattle.std.proofs.lemmas.Grind.{flat_map-append}
use Rattle.byte_streams.specs.SinkState.{SinkState}
use Rattle.byte_streams.specs.Source.{SourceState}
use Rattle.http_server.specs.declared.log.Log.{Log}
use Rattle.oci_transport.specs.Link.{Link, Answering, Extends, Steady}
use Rattle.oci_transport.specs.declared.message.Exchange.{Exchange}
use Rattle.oci_transport.specs.declared.message.Request.{Request}
use Rattle.live_link.specs.Asking.{Asks, piece_after, PieceReply}
use Rattle.live_link.specs.Bodies.{body_in}
use Rattle.live_link.specs.Requests.{more_text}
use Rattle.live_link.specs.Transcript.{Replies}
use Rattle.live_link.specs.State.{body_left, exchange_in, exchanges_by, told_from, told_since, rest_in, Holds}
use Rattle.live_link.specs.declared.replies.Reply.{Reply}
use Rattle.live_link.specs.declared.replies.Reply.TheVariants.{Answer, Piece, End, Failed, Other}
use Rattle.live_link.specs.declared.stage.Breach.{Breach}
use Rattle.live_link.specs.declared.stage.Heard.{Heard}
use Rattle.live_link.specs.declared.stage.Stage.{Stage}
use Rattle.live_link.specs.declared.stage.Stage.TheVariants.{Open}
use Rattle.live_link.proofs.Pieces.{body_piece, body_end, not_empty}

-- ---- the history

pub one_entry : {S : Type 0} (source_state : S → SourceState) (items later : List (S × Log Request Heard)) (source : S) (said : Log Request Heard) (entry : Request × Heard)
    → later ≡ items ++ (source, said) ∷ [] → said.items ≡ entry ∷ [] → exchanges_by source_state later ≡ exchanges_by source_state items ++ exchange_in (source_state source).left entry ∷ []
one_entry source_state items later source said entry is one =
    ap (exchanges_by source_state) is ∙ flat_map-append _ items ((source, said) ∷ [])
    ∙ ap (λ t. exchanges_by source_state items ++ t) (append-nil _ ∙ ap (map (exchange_in (source_state source).left)) one)

told_more : (took leaves : Option (List ℕ)) (c before : List Exchange) (e : Exchange) → told_from took leaves c ≡ Some before → told_from took leaves (c ++ e ∷ []) ≡ Some (before ++ e ∷ [])
told_more None leaves c before e told = absurd (cc told)
told_more (Some t) None c before e told = absurd (cc told)
told_more (Some t) (Some l) c before e told = ap (option_map (λ b. b ++ e ∷ [])) told

pub tells_more : {S K : Type 0} (source_state : S → SourceState) (sink_state : K → SinkState) (began : List (S × K)) (c d before : List Exchange) (e : Exchange)
    → d ≡ c ++ e ∷ [] → told_since source_state sink_state began c ≡ Some before → told_since source_state sink_state began d ≡ Some (before ++ e ∷ [])
tells_more source_state sink_state [] c d before e is told = absurd (cc told)
tells_more source_state sink_state (first ∷ later) c d before e is told =
    ap (told_from (sink_state first.1).taken (source_state first.0).left) is ∙ told_more (sink_state first.1).taken (source_state first.0).left c before e told

-- ---- if exchanges are exposed, the source exposes its bytes

began_so : (took leaves : Option (List ℕ)) (c before : List Exchange) → told_from took leaves c ≡ Some before → (taken : List ℕ) × (left : List ℕ) × (took ≡ Some taken) × (leaves ≡ Some left)
began_so None leaves c before told = absurd (cc told)
began_so (Some t) None c before told = absurd (cc told)
began_so (Some t) (Some l) c before told = (t, l, refl, refl)

pub tells : {S K : Type 0} (source_state : S → SourceState) (sink_state : K → SinkState) (began : List (S × K)) (source : S) (sink : K) (stage : Stage) (c d before : List Exchange)
    → ∥ Holds source_state sink_state began source sink stage c ∥₁ → told_since source_state sink_state began d ≡ Some before → is_some (source_state source).left ≡ true
tells source_state sink_state [] source sink stage c d before holds told = absurd (cc told)
tells source_state sink_state (first ∷ later) source sink stage c d before holds told =
    let so = began_so (sink_state first.1).taken (source_state first.0).left d before told in
    ∥∥₁_elim holds (Coded-set coded_bool _ _) (λ h. ap is_some (h so.0 so.1 so.2 so.3).held.leaves)

body_known : (o : Option (List ℕ)) → is_some o ≡ true → option_map body_in o ≡ Some (body_left o)
body_known None is = absurd (cc is)
body_known (Some xs) is = refl

-- the rest of the body after the head of a response
pub rest_known : (stage : Stage) (o : Option (List ℕ)) → stage ≡ Open → is_some o ≡ true → rest_in stage o ≡ Some (body_left o)
rest_known stage o opened is = ap (λ s. rest_in s o) opened ∙ body_known o is

-- ---- the laws of a transport whose responses are not predetermined

no_answering : (o : Option Answering) (a : Answering) → o ≡ None → o ≡ Some a → ⊥
no_answering o a none is = cc (none, is)

pub steady : (old new : Link) → old.answers ≡ None → new.exact ≡ old.exact → Steady old new
steady old new none exact = record {
  exact = exact;
  steady = λ a is. absurd (no_answering old.answers a none is);
  quiet = λ a is never. absurd (no_answering old.answers a none is);
}

pub extends : (old new : Link) (added : List Exchange) → old.answers ≡ None → new.exact ≡ old.exact
    → ((before : List Exchange) → old.told ≡ Some before → new.told ≡ Some (before ++ added)) → Extends old new added
extends old new added none exact told = record {
  told = told;
  table = λ a before is was. absurd (no_answering old.answers a none is);
  stays = steady old new none exact;
}

-- ---- a piece

piece_bytes : (came after p : List ℕ) → Replies (Piece p) came → (body_in (came ++ after) ≡ p ++ body_in after) × (p ≡ [] → ⊥)
piece_bytes came after p is = (body_piece is.frame came after p is.is is.says, not_empty is.frame p is.says)

taken_by : (a b : Option (List ℕ)) (came p rest : List ℕ) → Replies (Piece p) came → Consumes a b came → option_map body_in a ≡ Some rest
    → (left : List ℕ) × (rest ≡ p ++ left) × (option_map body_in b ≡ Some left) × (p ≡ [] → rest ≡ [])
taken_by None b came p rest is taken told = absurd (cc told)
taken_by (Some xs) None came p rest is taken told = absurd taken
taken_by (Some xs) (Some ys) came p rest is taken told =
    let piece = piece_bytes came ys p is in
    (body_in ys, sym (ap (λ o. unwrap_or o []) told) ∙ ap body_in taken ∙ piece.0, refl, λ none. absurd (piece.1 none))

ended_by : (a b : Option (List ℕ)) (came rest : List ℕ) → Replies End came → Consumes a b came → option_map body_in a ≡ Some rest → rest ≡ []
ended_by None b came rest is taken told = absurd (cc told)
ended_by (Some xs) None came rest is taken told = absurd taken
ended_by (Some xs) (Some ys) came rest is taken told =
    sym (ap (λ o. unwrap_or o []) told) ∙ ap body_in taken ∙ body_end is.frame came ys is.is is.says

-- the piece is a prefix of what was left
abbrev TakesPart : List ℕ → Option (List ℕ) → Option (List ℕ) → Type 0
TakesPart p old new = (rest : List ℕ) → old ≡ Some rest → (left : List ℕ) × (rest ≡ p ++ left) × (new ≡ Some left) × (p ≡ [] → rest ≡ [])

part_of : (s t : SourceState) (k l : SinkState) (reply : Result Reply Breach) (p : List ℕ) → Asks more_text reply s t k l → (piece_after reply).1 ≡ Some p
    → TakesPart p (rest_in Open s.left) (rest_in (piece_after reply).0 t.left)
part_of s t k l (Ok (Answer head)) p asks is rest told = absurd (cc is)
part_of s t k l (Ok (Piece piece)) p asks is rest told =
    taken_by s.left t.left asks.came p rest (subst (λ q. Replies (Piece q) asks.came) (ap (λ o. unwrap_or o []) is) asks.replied) asks.taken told
part_of s t k l (Ok End) p asks is rest told =
    let none : [] ≡ p = ap (λ o. unwrap_or o []) is in
    let over = ended_by s.left t.left asks.came rest asks.replied asks.taken told in
    ([], over ∙ none ∙ sym (append-nil p), refl, λ empty. over)
part_of s t k l (Ok Failed) p asks is rest told = absurd (cc is)
part_of s t k l (Ok Other) p asks is rest told = absurd (cc is)
part_of s t k l (Err breach) p asks is rest told = absurd (cc is)

pub takes_part : (s t : SourceState) (k l : SinkState) (stage : Stage) (r : Stage × Option (List ℕ)) (p : List ℕ) → stage ≡ Open → PieceReply r s t k l → r.1 ≡ Some p
    → TakesPart p (rest_in stage s.left) (rest_in r.0 t.left)
takes_part s t k l stage r p opened got is =
    subst (λ u. TakesPart p (rest_in u s.left) (rest_in r.0 t.left)) (sym opened)
    (subst (λ (q : Stage × Option (List ℕ)). TakesPart p (rest_in Open s.left) (rest_in q.0 t.left)) (sym got.is)
    (part_of s t k l got.reply p got.asks (sym (ap (λ (q : Stage × Option (List ℕ)). q.1) got.is) ∙ is)))
