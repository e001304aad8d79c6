-- Where the answers of a script come from.
use Rattle.std.proofs.Common.{◌≡◌, suc, Bool, true, false, List, [], ◌∷◌, ◌++◌, length, drop, slice_get, Some, None, Option, if◌then◌else◌, refl, sym, ap, subst, ◌∙◌, arith}
use Rattle.std.proofs.lemmas.Option.{slice_get_past}
use Rattle.oci_transport.specs.Link.{Link, NeverFails, Steady, Extends, Answers, answer_of}
use Rattle.oci_transport.specs.Pieces.{joined}
use Rattle.oci_transport.specs.Recorded.{answer_in, recorded_answer, pieces_of, may_fail, answering, last_pieces}
use Rattle.oci_transport.specs.declared.recorded.Recorded.{Recorded}
use Rattle.oci_transport.specs.declared.message.Request.{Request}
use Rattle.oci_transport.specs.declared.message.Answer.{Answer}
use Rattle.oci_transport.specs.declared.message.AnswerHead.{AnswerHead}
use Rattle.oci_transport.specs.declared.message.Exchange.{Exchange}

some_is : {A : Type 0} (x y : A) → Some x ≡ Some y → x ≡ y
some_is x y h = cc h

-- after its last answer a script fails
never : (items : List Recorded) → NeverFails (answering items) → ⊥
unfolding answering
never items h = let past : may_fail (slice_get items (length items)) ≡ true = rw (slice_get_past items (length items) (omega arith)) refl in cc (h (length items), past)

-- two states with the same recorded answers
pub same_answers : (items : List Recorded) (old new : Link) → old.answers ≡ Some (answering items) → new.answers ≡ Some (answering items) → new.exact ≡ old.exact → Steady old new
same_answers items old new before after exact = record {
  exact = exact;
  steady = λ a h. after ∙ sym before ∙ h;
  quiet = λ a h quiet. absurd (never items (subst NeverFails (some_is _ _ (sym h ∙ before)) quiet));
}

-- the exchange has the recorded answer at its index
pub told_next : (items : List Recorded) (old new : Link) (before : List Exchange) (e : Exchange) → old.answers ≡ Some (answering items) → new.answers ≡ Some (answering items) → new.exact ≡ old.exact → old.told ≡ Some before → new.told ≡ Some (before ++ e ∷ [])
    → e.answer ≡ recorded_answer (slice_get items (length before)) → Extends old new (e ∷ [])
unfolding answering
told_next items old new before e answers same exact was told is = record {
  told = λ b h. told ∙ ap (λ c. Some (c ++ e ∷ [])) (some_is _ _ (sym was ∙ h));
  table = λ a b ha hb.
      let place : length before ≡ length b = ap length (some_is _ _ (sym was ∙ hb)) in
      let by : answering items ≡ a = some_is _ _ (sym answers ∙ ha) in
      (is ∙ ap (λ n. (answering items).answer n e.request) place ∙ ap (λ t. t.answer (length b) e.request) by, tt);
  stays = same_answers items old new answers same exact;
}

pub body_of : (o : Option Recorded) (answer : Answer) → recorded_answer o ≡ Some answer → joined (pieces_of o) ≡ answer.body
body_of None answer h = cc h
body_of (Some r) answer h = by_fails r.fails h where
  by_fails : (b : Bool) → (if b then None else Some (record { status = r.status; headers = r.headers; body = joined r.pieces })) ≡ Some answer → joined (if b then [] else r.pieces) ≡ answer.body
  by_fails true h = cc h
  by_fails false h = ap (λ (a : Answer). a.body) (some_is _ _ h)

nothing_of : (o : Option Recorded) → recorded_answer o ≡ None → joined (pieces_of o) ≡ []
nothing_of None h = refl
nothing_of (Some r) h = by_fails r.fails h where
  by_fails : (b : Bool) → (if b then None else Some (answer_in r)) ≡ None → joined (if b then [] else r.pieces) ≡ []
  by_fails true h = refl
  by_fails false h = cc h

pub length_next : {A : Type 0} (xs : List A) (x : A) → length (xs ++ x ∷ []) ≡ suc (length xs)
length_next [] x = refl
length_next (y ∷ xs) x = ap suc (length_next xs x)

pub rest_next : (items : List Recorded) (before : List Exchange) (e : Exchange) (answer : Answer) → recorded_answer (slice_get items (length before)) ≡ Some answer → joined (drop 0 (last_pieces items (length (before ++ e ∷ [])))) ≡ answer.body
rest_next items before e answer is = ap (λ n. joined (drop 0 (last_pieces items n))) (length_next before e) ∙ body_of (slice_get items (length before)) answer is

-- after a failed send no body is left
pub nothing_next : (items : List Recorded) (before : List Exchange) (e : Exchange) → recorded_answer (slice_get items (length before)) ≡ None → joined (drop 0 (last_pieces items (length (before ++ e ∷ [])))) ≡ []
nothing_next items before e none = ap (λ n. joined (drop 0 (last_pieces items n))) (length_next before e) ∙ nothing_of (slice_get items (length before)) none

pub answered_next : (items : List Recorded) (old new : Link) (before : List Exchange) (request : Request) (head : AnswerHead) (answer : Answer) → old.answers ≡ Some (answering items) → new.answers ≡ Some (answering items) → new.exact ≡ old.exact → new.faults ≡ old.faults
    → old.told ≡ Some before → new.told ≡ Some (before ++ record { request = request; answer = Some answer; faults = old.faults } ∷ []) → recorded_answer (slice_get items (length before)) ≡ Some answer
    → head.status ≡ answer.status → head.headers ≡ answer.headers → new.rest ≡ Some answer.body → Answers request head old new
answered_next items old new before request head answer answers same exact calm was told is status headers rest =
    let whole : answer_of head answer.body ≡ answer = λ i. record { status = status i; headers = headers i; body = answer.body } in
    record {
      body = answer.body;
      added = subst (λ a. Extends old new (record { request = request; answer = Some a; faults = old.faults } ∷ [])) (sym whole) (told_next items old new before (record { request = request; answer = Some answer; faults = old.faults }) answers same exact was told (sym is));
      rest = λ b h. rest;
      calm = λ h. calm;
    }
