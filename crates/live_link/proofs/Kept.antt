-- How a request, and a request for a piece, change what is known of the streams.
use Rattle.std.proofs.Common.{◌≡◌, ℕ, true, List, [], ◌∷◌, ◌++◌, Option, Some, None, refl, sym, ap, subst, ◌∙◌, append_assoc, append-nil}
use Rattle.std.specs.Prelude.{unwrap_or, Result, Ok, Err}
use Rattle.std.specs.Io.KnownBytes.{Consumes}
use Rattle.std.proofs.lemmas.List.Elements.{All-nil}
use Rattle.byte_streams.specs.SinkState.{SinkState, Adds}
use Rattle.byte_streams.specs.Source.{SourceState, Takes}
use Rattle.oci_transport.specs.declared.message.AnswerHead.{AnswerHead}
use Rattle.oci_transport.specs.declared.message.Exchange.{Exchange}
use Rattle.oci_transport.specs.declared.message.Request.{Request}
use Rattle.live_link.specs.Asking.{Asked, Asks, unsent, head_after, piece_after, Sends, not_sent, was_sent, PieceReply}
use Rattle.live_link.specs.Bodies.{body_in}
use Rattle.live_link.specs.Requests.{request_text, more_text}
use Rattle.live_link.specs.Transcript.{IsReply, UnansweredTurn, TurnBy, Turn, Transcript}
use Rattle.live_link.specs.State.{is_open, breach_in, exchange_in, ends_answered, IsPrefix, SentLast, a_piece, a_request, Held, HeldAt}
use Rattle.live_link.specs.declared.replies.Reply.{Reply}
use Rattle.live_link.specs.declared.replies.Reply.TheVariants.{Answer, Piece, End, Failed, Other}
use Rattle.live_link.specs.declared.stage.Breach.{Breach}
use Rattle.live_link.specs.declared.stage.Heard.{Heard}
use Rattle.live_link.specs.declared.stage.Stage.{Stage}
use Rattle.live_link.specs.declared.stage.Stage.TheVariants.{Ended, Open, Cut, Broken}
use Rattle.live_link.proofs.Turns.{one_more, asks_more, answered_last}

-- what is left after bytes that were taken of known ones
pub left_after : (a b : Option (List ℕ)) (came xs : List ℕ) → a ≡ Some xs → Consumes a b came → (ys : List ℕ) × (b ≡ Some ys) × (xs ≡ came ++ ys)
left_after None b came xs is taken = absurd (cc is)
left_after (Some zs) None came xs is taken = absurd taken
left_after (Some zs) (Some ys) came xs is taken = (ys, refl, sym (ap (λ o. unwrap_or o []) is) ∙ taken)

whole_front : (text : List ℕ) → IsPrefix text text
whole_front text = ([], sym (append-nil text))

-- nothing was sent outside the frames
pub nothing_last : (c : List Exchange) → SentLast c []
nothing_last c = a_piece (more_text, refl)

-- one more exchange
last_kept : (c : List Exchange) (e : Exchange) (front : List ℕ) → SentLast c front → SentLast (c ++ e ∷ []) front
last_kept c e front (a_piece is) = a_piece is
last_kept c e front (a_request before after f at none is) =
    a_request before (after ++ e ∷ []) f (ap (λ d. d ++ e ∷ []) at ∙ append_assoc before (f ∷ after) (e ∷ [])) none is

-- nothing is lost yet: all that was sent and received is the frames of these exchanges
record InStep (taken left : List ℕ) (sink : SinkState) (source : SourceState) (c : List Exchange) : Type 0 where
  sent : List ℕ
  came : List ℕ
  after : List ℕ
  took : sink.taken ≡ Some (taken ++ sent)
  leaves : source.left ≡ Some after
  gave : left ≡ came ++ after
  spoke : Transcript c sent came after

in_step_of : (taken left : List ℕ) (sink : SinkState) (source : SourceState) (breach : Option Breach) (c : List Exchange)
    → Held taken left sink source breach c → breach ≡ None → InStep taken left sink source c
in_step_of taken left sink source breach c held none =
    let lost = held.in_step none in
    record {
      sent = held.sent;
      came = held.came;
      after = held.after;
      took = held.took ∙ ap (λ s. Some (taken ++ (held.sent ++ s))) lost.0 ∙ ap (λ s. Some (taken ++ s)) (append-nil held.sent);
      leaves = held.leaves;
      gave = held.gave ∙ ap (λ s. held.came ++ (s ++ held.after)) lost.1;
      spoke = subst (λ s. Transcript c held.sent held.came (s ++ held.after)) lost.1 held.spoke;
    }

held_of : (taken left : List ℕ) (sink : SinkState) (source : SourceState) (breach : Option Breach) (c : List Exchange)
    → InStep taken left sink source c → Held taken left sink source breach c
held_of taken left sink source breach c step = record {
  sent = step.sent;
  came = step.came;
  lost_out = [];
  lost_in = [];
  after = step.after;
  took = step.took ∙ ap (λ s. Some (taken ++ s)) (sym (append-nil step.sent));
  leaves = step.leaves;
  gave = step.gave;
  spoke = step.spoke;
  last = nothing_last c;
  in_step = λ none. (refl, refl);
}

-- a frame was sent and one was received, which are the next turn
turned : (taken left text : List ℕ) (reply : Reply) (k l : SinkState) (s t : SourceState) (c : List Exchange) (e : Exchange)
    → InStep taken left k s c → (asked : Asked text reply s t k l)
    → ((after : List ℕ) → t.left ≡ Some after → Turn e text asked.came after)
    → InStep taken left l t (c ++ e ∷ [])
turned taken left text reply k l s t c e step asked turn =
    let rest = left_after s.left t.left asked.came step.after step.leaves asked.taken in
    record {
      sent = step.sent ++ text;
      came = step.came ++ asked.came;
      after = rest.0;
      took = asked.sent.took (taken ++ step.sent) step.took ∙ ap Some (append_assoc taken step.sent text);
      leaves = rest.1;
      gave = step.gave ∙ ap (λ s. step.came ++ s) rest.2 ∙ sym (append_assoc step.came asked.came rest.0);
      spoke = one_more c e step.sent step.came text asked.came rest.0 (subst (Transcript c step.sent step.came) rest.2 step.spoke) (turn rest.0 rest.1);
    }

-- the request for a piece was sent and a frame was received, which belong to the last turn
turned_more : (taken left : List ℕ) (reply : Reply) (k l : SinkState) (s t : SourceState) (c : List Exchange)
    → InStep taken left k s c → ends_answered c ≡ true → Asked more_text reply s t k l → InStep taken left l t c
turned_more taken left reply k l s t c step answered asked =
    let rest = left_after s.left t.left asked.came step.after step.leaves asked.taken in
    record {
      sent = step.sent ++ more_text;
      came = step.came ++ asked.came;
      after = rest.0;
      took = asked.sent.took (taken ++ step.sent) step.took ∙ ap Some (append_assoc taken step.sent more_text);
      leaves = rest.1;
      gave = step.gave ∙ ap (λ s. step.came ++ s) rest.2 ∙ sym (append_assoc step.came asked.came rest.0);
      spoke = asks_more c step.sent step.came asked.came rest.0 answered (reply, asked.replied) (subst (Transcript c step.sent step.came) rest.2 step.spoke);
    }

-- a prefix of the request for a piece was sent, and is lost with whatever was received
lost : (taken left front came : List ℕ) (k l : SinkState) (s t : SourceState) (c : List Exchange) (breach : Breach)
    → InStep taken left k s c → Adds front k l → IsPrefix front more_text → Takes came s t → Held taken left l t (Some breach) c
lost taken left front came k l s t c breach step sent is got =
    let rest = left_after s.left t.left came step.after step.leaves got in
    record {
      sent = step.sent;
      came = step.came;
      lost_out = front;
      lost_in = came;
      after = rest.0;
      took = sent.took (taken ++ step.sent) step.took ∙ ap Some (append_assoc taken step.sent front);
      leaves = rest.1;
      gave = step.gave ∙ ap (λ s. step.came ++ s) rest.2;
      spoke = subst (Transcript c step.sent step.came) rest.2 step.spoke;
      last = a_piece is;
      in_step = λ none. absurd (cc none);
    }

-- the same of a request, which is an exchange without a response
lost_request : (taken left front came : List ℕ) (k l : SinkState) (s t : SourceState) (c : List Exchange) (e : Exchange) (breach : Breach) → e.answer ≡ None
    → InStep taken left k s c → Adds front k l → IsPrefix front (request_text e.request) → Takes came s t → Held taken left l t (Some breach) (c ++ e ∷ [])
lost_request taken left front came k l s t c e breach none step sent is got =
    let rest = left_after s.left t.left came step.after step.leaves got in
    record {
      sent = step.sent ++ [];
      came = step.came ++ [];
      lost_out = front;
      lost_in = came;
      after = rest.0;
      took = sent.took (taken ++ step.sent) step.took ∙ ap Some (append_assoc taken step.sent front) ∙ ap (λ s. Some (taken ++ (s ++ front))) (sym (append-nil step.sent));
      leaves = rest.1;
      gave = step.gave ∙ ap (λ s. step.came ++ s) rest.2 ∙ ap (λ s. s ++ (came ++ rest.0)) (sym (append-nil step.came));
      spoke = one_more c e step.sent step.came [] [] (came ++ rest.0) (subst (Transcript c step.sent step.came) rest.2 step.spoke) (subst (λ o. TurnBy o e.request [] [] (came ++ rest.0)) (sym none) (UnansweredTurn.unsent refl refl));
      last = a_request c [] e refl none is;
      in_step = λ none. absurd (cc none);
    }

-- one more exchange, for which nothing was sent or received
unasked : (taken left : List ℕ) (sink : SinkState) (source : SourceState) (breach : Option Breach) (c : List Exchange) (e : Exchange) → e.answer ≡ None
    → Held taken left sink source breach c → Held taken left sink source breach (c ++ e ∷ [])
unasked taken left sink source breach c e none held = record {
  sent = held.sent ++ [];
  came = held.came ++ [];
  lost_out = held.lost_out;
  lost_in = held.lost_in;
  after = held.after;
  took = held.took ∙ ap (λ s. Some (taken ++ (s ++ held.lost_out))) (sym (append-nil held.sent));
  leaves = held.leaves;
  gave = held.gave ∙ ap (λ s. s ++ (held.lost_in ++ held.after)) (sym (append-nil held.came));
  spoke = one_more c e held.sent held.came [] [] (held.lost_in ++ held.after) held.spoke (subst (λ o. TurnBy o e.request [] [] (held.lost_in ++ held.after)) (sym none) (UnansweredTurn.unsent refl refl));
  last = last_kept c e held.lost_out held.last;
  in_step = held.in_step;
}

-- ---- a request

abbrev heard_of : Option AnswerHead → ℕ → Heard
heard_of head faults = record { head = head; faults = faults }

unsent_breach : (stage : Stage) → breach_in (unsent stage) ≡ breach_in stage
unsent_breach Ended = refl
unsent_breach Open = refl
unsent_breach Cut = refl
unsent_breach (Broken breach) = refl

unsent_closed : (stage : Stage) → is_open (unsent stage) ≡ true → ⊥
unsent_closed Ended is = cc is
unsent_closed Open is = cc is
unsent_closed Cut is = cc is
unsent_closed (Broken breach) is = cc is

-- the head of a response was received
answered : (taken left : List ℕ) (k l : SinkState) (s t : SourceState) (c : List Exchange) (request : Request) (head : AnswerHead) (faults : ℕ)
    → InStep taken left k s c → Asked (request_text request) (Answer head) s t k l
    → HeldAt taken left l t Open (c ++ exchange_in t.left (request, heard_of (Some head) faults) ∷ [])
answered taken left k l s t c request head faults step asked =
    let e = exchange_in t.left (request, heard_of (Some head) faults) in
    record {
      held = held_of taken left l t None (c ++ e ∷ []) (turned taken left (request_text request) (Answer head) k l s t c e step asked (λ after is. record {
        head = asked.came;
        replies = [];
        out = sym (append-nil (request_text request));
        in_bytes = sym (append-nil asked.came);
        answers = asked.replied;
        frames = All-nil IsReply;
        body = ap (λ o. body_in (unwrap_or o [])) is;
      }));
      answered = λ is. answered_last c e refl;
    }

-- a frame that reports its failure was received
refused : (taken left : List ℕ) (k l : SinkState) (s t : SourceState) (c : List Exchange) (request : Request) (faults : ℕ)
    → InStep taken left k s c → Asked (request_text request) Failed s t k l
    → HeldAt taken left l t Ended (c ++ exchange_in t.left (request, heard_of None faults) ∷ [])
refused taken left k l s t c request faults step asked =
    let e = exchange_in t.left (request, heard_of None faults) in
    record {
      held = held_of taken left l t None (c ++ e ∷ []) (turned taken left (request_text request) Failed k l s t c e step asked (λ after is. UnansweredTurn.failed refl asked.replied));
      answered = λ is. absurd (cc is);
    }

-- the streams broke
broke : (taken left front came : List ℕ) (k l : SinkState) (s t : SourceState) (c : List Exchange) (request : Request) (faults : ℕ) (breach : Breach)
    → InStep taken left k s c → Adds front k l → IsPrefix front (request_text request) → Takes came s t
    → HeldAt taken left l t (Broken breach) (c ++ exchange_in t.left (request, heard_of None faults) ∷ [])
broke taken left front came k l s t c request faults breach step sent is got = record {
  held = lost_request taken left front came k l s t c (exchange_in t.left (request, heard_of None faults)) breach refl step sent is got;
  answered = λ is. absurd (cc is);
}

replied : (taken left : List ℕ) (k l : SinkState) (s t : SourceState) (c : List Exchange) (request : Request) (faults : ℕ) (reply : Result Reply Breach)
    → InStep taken left k s c → Asks (request_text request) reply s t k l
    → HeldAt taken left l t (head_after reply).0 (c ++ exchange_in t.left (request, heard_of (head_after reply).1 faults) ∷ [])
replied taken left k l s t c request faults (Ok (Answer head)) step asks = answered taken left k l s t c request head faults step asks
replied taken left k l s t c request faults (Ok (Piece piece)) step asks = broke taken left (request_text request) asks.came k l s t c request faults _ step asks.sent (whole_front (request_text request)) asks.taken
replied taken left k l s t c request faults (Ok End) step asks = broke taken left (request_text request) asks.came k l s t c request faults _ step asks.sent (whole_front (request_text request)) asks.taken
replied taken left k l s t c request faults (Ok Failed) step asks = refused taken left k l s t c request faults step asks
replied taken left k l s t c request faults (Ok Other) step asks = broke taken left (request_text request) asks.came k l s t c request faults _ step asks.sent (whole_front (request_text request)) asks.taken
replied taken left k l s t c request faults (Err breach) step asks = broke taken left asks.sent.front asks.came k l s t c request faults breach step asks.sent.added (asks.sent.left, asks.sent.split) asks.taken

not_asked : (taken left : List ℕ) (sink : SinkState) (source : SourceState) (stage : Stage) (c : List Exchange) (request : Request) (faults : ℕ)
    → HeldAt taken left sink source stage c → HeldAt taken left sink source (unsent stage) (c ++ exchange_in source.left (request, heard_of None faults) ∷ [])
not_asked taken left sink source stage c request faults at = record {
  held = subst (λ b. Held taken left sink source b (c ++ exchange_in source.left (request, heard_of None faults) ∷ [])) (sym (unsent_breach stage))
      (unasked taken left sink source (breach_in stage) c (exchange_in source.left (request, heard_of None faults)) refl at.held);
  answered = λ is. absurd (unsent_closed stage is);
}

-- what is known after a request
pub sends : (taken left : List ℕ) (k l : SinkState) (s t : SourceState) (stage : Stage) (r : Stage × Option AnswerHead) (c : List Exchange) (request : Request) (faults : ℕ)
    → HeldAt taken left k s stage c → Sends request stage r s t k l
    → HeldAt taken left l t r.0 (c ++ exchange_in t.left (request, heard_of r.1 faults) ∷ [])
sends taken left k l s t stage r c request faults at (not_sent is same_source same_sink) =
    subst (λ (q : Stage × Option AnswerHead). HeldAt taken left l t q.0 (c ++ exchange_in t.left (request, heard_of q.1 faults) ∷ [])) (sym is)
    (subst (λ (u : SourceState). HeldAt taken left l u (unsent stage) (c ++ exchange_in u.left (request, heard_of None faults) ∷ [])) (sym same_source)
    (subst (λ (m : SinkState). HeldAt taken left m s (unsent stage) (c ++ exchange_in s.left (request, heard_of None faults) ∷ [])) (sym same_sink)
    (not_asked taken left k s stage c request faults at)))
sends taken left k l s t stage r c request faults at (was_sent reply none is asks) =
    subst (λ (q : Stage × Option AnswerHead). HeldAt taken left l t q.0 (c ++ exchange_in t.left (request, heard_of q.1 faults) ∷ [])) (sym is)
    (replied taken left k l s t c request faults reply (in_step_of taken left k s (breach_in stage) c at.held none) asks)

-- ---- a piece

pieced : (taken left : List ℕ) (k l : SinkState) (s t : SourceState) (c : List Exchange) (reply : Result Reply Breach)
    → InStep taken left k s c → ends_answered c ≡ true → Asks more_text reply s t k l → HeldAt taken left l t (piece_after reply).0 c
pieced taken left k l s t c (Ok (Answer head)) step last asks = record { held = lost taken left more_text asks.came k l s t c _ step asks.sent (whole_front more_text) asks.taken; answered = λ is. absurd (cc is) }
pieced taken left k l s t c (Ok (Piece piece)) step last asks = record { held = held_of taken left l t None c (turned_more taken left (Piece piece) k l s t c step last asks); answered = λ is. last }
pieced taken left k l s t c (Ok End) step last asks = record { held = held_of taken left l t None c (turned_more taken left End k l s t c step last asks); answered = λ is. last }
pieced taken left k l s t c (Ok Failed) step last asks = record { held = held_of taken left l t None c (turned_more taken left Failed k l s t c step last asks); answered = λ is. last }
pieced taken left k l s t c (Ok Other) step last asks = record { held = lost taken left more_text asks.came k l s t c _ step asks.sent (whole_front more_text) asks.taken; answered = λ is. absurd (cc is) }
pieced taken left k l s t c (Err breach) step last asks = record { held = lost taken left asks.sent.front asks.came k l s t c breach step asks.sent.added (asks.sent.left, asks.sent.split) asks.taken; answered = λ is. absurd (cc is) }

-- what is known after the request for a piece
pub gives : (taken left : List ℕ) (k l : SinkState) (s t : SourceState) (stage : Stage) (r : Stage × Option (List ℕ)) (c : List Exchange)
    → HeldAt taken left k s stage c → stage ≡ Open → PieceReply r s t k l → HeldAt taken left l t r.0 c
gives taken left k l s t stage r c at opened got =
    subst (λ (q : Stage × Option (List ℕ)). HeldAt taken left l t q.0 c) (sym got.is)
    (pieced taken left k l s t c got.reply (in_step_of taken left k s (breach_in stage) c at.held (ap breach_in opened)) (at.answered (ap is_open opened)) got.asks)
