-- Exchanges by their frames: how they follow one another, and how the last one continues.
use Rattle.std.proofs.Common.{◌≡◌, ℕ, true, List, [], ◌∷◌, ◌++◌, Option, Some, None, refl, sym, ap, subst, ◌∙◌, append_assoc, append-nil}
use Rattle.std.specs.Prelude.{is_some, All}
use Rattle.std.proofs.lemmas.Grind.{flat_map-append}
use Rattle.std.proofs.lemmas.List.Elements.{All-nil, All-cons, All-head, All-tail}
use Rattle.oci_transport.specs.declared.message.Exchange.{Exchange}
use Rattle.oci_transport.specs.declared.message.Answer.{Answer}
use Rattle.oci_transport.specs.declared.message.Request.{Request}
use Rattle.live_link.specs.Requests.{request_text, more_text}
use Rattle.live_link.specs.Bodies.{body_in}
use Rattle.live_link.specs.Transcript.{IsReply, texts, asked, TurnBy, Turn, TranscriptMore, Transcript}
use Rattle.live_link.specs.State.{is_answered, ends_answered}

-- the same turn, with equal bytes after it
turn_by : (o : Option Answer) (request : Request) (sent came a b : List ℕ) → a ≡ b → TurnBy o request sent came a → TurnBy o request sent came b
turn_by o request sent came a b same turn = subst (TurnBy o request sent came) same turn

-- These exchanges, and then those.
pub joins : (c d : List Exchange) (sent came more_sent more_came after : List ℕ)
    → Transcript c sent came (more_came ++ after) → Transcript d more_sent more_came after → Transcript (c ++ d) (sent ++ more_sent) (came ++ more_came) after
joins [] d sent came more_sent more_came after first later =
    subst (λ s. Transcript d (s ++ more_sent) (came ++ more_came) after) (sym first.0)
    (subst (λ s. Transcript d ([] ++ more_sent) (s ++ more_came) after) (sym first.1) later)
joins (e ∷ c) d sent came more_sent more_came after first later = record {
  first_sent = first.first_sent;
  later_sent = first.later_sent ++ more_sent;
  first_came = first.first_came;
  later_came = first.later_came ++ more_came;
  out = ap (λ s. s ++ more_sent) first.out ∙ append_assoc first.first_sent first.later_sent more_sent;
  in_bytes = ap (λ s. s ++ more_came) first.in_bytes ∙ append_assoc first.first_came first.later_came more_came;
  first = turn_by e.answer e.request first.first_sent first.first_came _ _ (sym (append_assoc first.later_came more_came after)) first.first;
  later = joins c d first.later_sent first.later_came more_sent more_came after first.later later;
}

-- how exchanges are split: what was sent and received for the first of them, and for the others
pub record Parts (c d : List Exchange) (sent came after : List ℕ) : Type 0 where
  pub first_sent : List ℕ
  pub later_sent : List ℕ
  pub first_came : List ℕ
  pub later_came : List ℕ
  pub out : sent ≡ first_sent ++ later_sent
  pub in_bytes : came ≡ first_came ++ later_came
  pub first : Transcript c first_sent first_came (later_came ++ after)
  pub later : Transcript d later_sent later_came after

pub parts : (c d : List Exchange) (sent came after : List ℕ) → Transcript (c ++ d) sent came after → Parts c d sent came after
parts [] d sent came after spoke = record {
  first_sent = [];
  later_sent = sent;
  first_came = [];
  later_came = came;
  out = refl;
  in_bytes = refl;
  first = (refl, refl);
  later = spoke;
}
parts (e ∷ c) d sent came after spoke =
    let more = parts c d spoke.later_sent spoke.later_came after spoke.later in
    record {
      first_sent = spoke.first_sent ++ more.first_sent;
      later_sent = more.later_sent;
      first_came = spoke.first_came ++ more.first_came;
      later_came = more.later_came;
      out = spoke.out ∙ ap (λ s. spoke.first_sent ++ s) more.out ∙ sym (append_assoc spoke.first_sent more.first_sent more.later_sent);
      in_bytes = spoke.in_bytes ∙ ap (λ s. spoke.first_came ++ s) more.in_bytes ∙ sym (append_assoc spoke.first_came more.first_came more.later_came);
      first = record {
        first_sent = spoke.first_sent;
        later_sent = more.first_sent;
        first_came = spoke.first_came;
        later_came = more.first_came;
        out = refl;
        in_bytes = refl;
        first = turn_by e.answer e.request spoke.first_sent spoke.first_came _ _ (ap (λ s. s ++ after) more.in_bytes ∙ append_assoc more.first_came more.later_came after) spoke.first;
        later = more.first;
      };
      later = more.later;
    }

-- one more exchange
pub one_more : (c : List Exchange) (e : Exchange) (sent came more_sent more_came after : List ℕ)
    → Transcript c sent came (more_came ++ after) → Turn e more_sent more_came after → Transcript (c ++ e ∷ []) (sent ++ more_sent) (came ++ more_came) after
one_more c e sent came more_sent more_came after first turn =
    joins c (e ∷ []) sent came more_sent more_came after first (record {
      first_sent = more_sent;
      later_sent = [];
      first_came = more_came;
      later_came = [];
      out = sym (append-nil more_sent);
      in_bytes = sym (append-nil more_came);
      first = turn;
      later = (refl, refl);
    })

All-last : (xs : List (List ℕ)) (x : List ℕ) → All IsReply xs → IsReply x → All IsReply (xs ++ x ∷ [])
All-last [] x all is = All-cons IsReply x [] is (All-nil IsReply)
All-last (y ∷ xs) x all is = All-cons IsReply y (xs ++ x ∷ []) (All-head IsReply y xs all) (All-last xs x (All-tail IsReply y xs all) is)

texts_last : (xs : List (List ℕ)) (x : List ℕ) → texts (xs ++ x ∷ []) ≡ texts xs ++ x
texts_last xs x = flat_map-append (λ (t : List ℕ). t) xs (x ∷ []) ∙ ap (λ t. texts xs ++ t) (append-nil x)

asked_last : (xs : List (List ℕ)) (x : List ℕ) → asked (xs ++ x ∷ []) ≡ asked xs ++ more_text
asked_last xs x = flat_map-append (λ (t : List ℕ). more_text) xs (x ∷ []) ∙ ap (λ t. asked xs ++ t) (append-nil more_text)

-- the request for a piece and its reply belong to the turn before
turn_more : (o : Option Answer) (request : Request) (sent came text after : List ℕ) → is_some o ≡ true → IsReply text
    → TurnBy o request sent came (text ++ after) → TurnBy o request (sent ++ more_text) (came ++ text) after
turn_more None request sent came text after answered reply turn = absurd (cc answered)
turn_more (Some answer) request sent came text after answered reply turn = record {
  head = turn.head;
  replies = turn.replies ++ text ∷ [];
  out = ap (λ s. s ++ more_text) turn.out ∙ append_assoc (request_text request) (asked turn.replies) more_text ∙ ap (λ s. request_text request ++ s) (sym (asked_last turn.replies text));
  in_bytes = ap (λ s. s ++ text) turn.in_bytes ∙ append_assoc turn.head (texts turn.replies) text ∙ ap (λ s. turn.head ++ s) (sym (texts_last turn.replies text));
  answers = turn.answers;
  frames = All-last turn.replies text turn.frames reply;
  body = turn.body ∙ ap body_in (sym (append_assoc (texts turn.replies) text after) ∙ ap (λ s. s ++ after) (sym (texts_last turn.replies text)));
}

nothing_later : (e : Exchange) (sent came after : List ℕ) (s : TranscriptMore (λ s t. Transcript [] s t after) e sent came after) → Turn e sent came after
nothing_later e sent came after s =
    let no_out = s.later.0 in
    let no_in = s.later.1 in
    let out : sent ≡ s.first_sent = s.out ∙ ap (λ t. s.first_sent ++ t) no_out ∙ append-nil s.first_sent in
    let in_bytes : came ≡ s.first_came = s.in_bytes ∙ ap (λ t. s.first_came ++ t) no_in ∙ append-nil s.first_came in
    subst (λ t. TurnBy e.answer e.request t came after) (sym out)
    (subst (λ t. TurnBy e.answer e.request s.first_sent t after) (sym in_bytes)
    (turn_by e.answer e.request s.first_sent s.first_came _ _ (ap (λ t. t ++ after) no_in) s.first))

alone : (e : Exchange) (sent came after : List ℕ) → Turn e sent came after → Transcript (e ∷ []) sent came after
alone e sent came after turn = record {
  first_sent = sent;
  later_sent = [];
  first_came = came;
  later_came = [];
  out = sym (append-nil sent);
  in_bytes = sym (append-nil came);
  first = turn;
  later = (refl, refl);
}

-- one more request for a piece, of the last exchange
pub asks_more : (c : List Exchange) (sent came text after : List ℕ) → ends_answered c ≡ true → IsReply text
    → Transcript c sent came (text ++ after) → Transcript c (sent ++ more_text) (came ++ text) after
asks_more [] sent came text after answered reply spoke = absurd (cc answered)
asks_more (e ∷ []) sent came text after answered reply spoke =
    alone e (sent ++ more_text) (came ++ text) after (turn_more e.answer e.request sent came text after answered reply (nothing_later e sent came (text ++ after) spoke))
asks_more (e ∷ f ∷ c) sent came text after answered reply spoke = record {
  first_sent = spoke.first_sent;
  later_sent = spoke.later_sent ++ more_text;
  first_came = spoke.first_came;
  later_came = spoke.later_came ++ text;
  out = ap (λ s. s ++ more_text) spoke.out ∙ append_assoc spoke.first_sent spoke.later_sent more_text;
  in_bytes = ap (λ s. s ++ text) spoke.in_bytes ∙ append_assoc spoke.first_came spoke.later_came text;
  first = turn_by e.answer e.request spoke.first_sent spoke.first_came _ _ (sym (append_assoc spoke.later_came text after)) spoke.first;
  later = asks_more (f ∷ c) spoke.later_sent spoke.later_came text after answered reply spoke.later;
}

-- the last exchange
pub answered_last : (c : List Exchange) (e : Exchange) → is_answered e ≡ true → ends_answered (c ++ e ∷ []) ≡ true
answered_last [] e is = is
answered_last (d ∷ []) e is = is
answered_last (d ∷ f ∷ c) e is = answered_last (f ∷ c) e is
