-- What a contract sees of a shelf's transports after a step.
use Rattle.std.proofs.Common.{◌≡◌, ℕ, zero, suc, ◌+◌, ◌<◌, ◌≤◌, Bool, true, false, List, [], ◌∷◌, ◌++◌, length, take, drop, Option, Some, None, refl, sym, ap, subst, ◌∙◌, arith, append-nil}
use Rattle.std.specs.Prelude.{min, nat_lt}
use Rattle.std.proofs.lemmas.Bool.Decides.{nat_tests}
use Rattle.std.proofs.lemmas.List.{take_all, drop-drop}
use Rattle.oci_transport.specs.Link.{Link, Answering, NeverFails, Steady, Extends, Answers, AddsAtMost, Takes, KeepsCount, with_piece, answer_of, EndsUnbroken, StaysUnbroken}
use Rattle.oci_transport.specs.declared.message.Request.{Request}
use Rattle.oci_transport.specs.declared.message.Answer.{Answer}
use Rattle.oci_transport.specs.declared.message.AnswerHead.{AnswerHead}
use Rattle.oci_transport.specs.declared.message.Exchange.{Exchange}

some_is : {A : Type 0} (x y : A) → Some x ≡ Some y → x ≡ y
some_is x y h = cc h

-- the same table, and no fault if nothing may fail
pub same_table : (a : Answering) (old new : Link) → old.answers ≡ Some a → new.answers ≡ Some a → new.exact ≡ old.exact → (NeverFails a → new.faults ≡ old.faults) → Steady old new
same_table a old new before after exact quiet = record {
  exact = exact;
  steady = λ b h. after ∙ sym before ∙ h;
  quiet = λ b h never. quiet (subst NeverFails (some_is _ _ (sym h ∙ before)) never);
}

-- one more exchange, by the table
pub told_next : (a : Answering) (old new : Link) (before : List Exchange) (e : Exchange) → old.answers ≡ Some a → new.answers ≡ Some a → new.exact ≡ old.exact → (NeverFails a → new.faults ≡ old.faults) → old.told ≡ Some before → new.told ≡ Some (before ++ e ∷ []) → e.answer ≡ a.answer (length before) e.request → Extends old new (e ∷ [])
told_next a old new before e answers same exact quiet was told is = record {
  told = λ b h. told ∙ ap (λ c. Some (c ++ e ∷ [])) (some_is _ _ (sym was ∙ h));
  table = λ b c hb hc.
      let place : length before ≡ length c = ap length (some_is _ _ (sym was ∙ hc)) in
      let by : a ≡ b = some_is _ _ (sym answers ∙ hb) in
      (is ∙ ap (λ n. a.answer n e.request) place ∙ ap (λ t. t.answer (length c) e.request) by, tt);
  stays = same_table a old new answers same exact quiet;
}

pub answered_next : (a : Answering) (old new : Link) (before : List Exchange) (request : Request) (head : AnswerHead) (answer : Answer) → old.answers ≡ Some a → new.answers ≡ Some a → new.exact ≡ old.exact → new.faults ≡ old.faults
    → old.told ≡ Some before → new.told ≡ Some (before ++ record { request = request; answer = Some answer; faults = old.faults } ∷ []) → a.answer (length before) request ≡ Some answer
    → head.status ≡ answer.status → head.headers ≡ answer.headers → new.rest ≡ Some answer.body → Answers request head old new
answered_next a old new before request head answer answers same exact calm was told is status headers rest =
    let whole : answer_of head answer.body ≡ answer = λ i. record { status = status i; headers = headers i; body = answer.body } in
    record {
      body = answer.body;
      added = subst (λ x. Extends old new (record { request = request; answer = Some x; faults = old.faults } ∷ [])) (sym whole) (told_next a old new before (record { request = request; answer = Some answer; faults = old.faults }) answers same exact (λ never. calm) was told (sym is));
      rest = λ b h. rest;
      calm = λ h. calm;
    }

-- nothing was sent
pub nothing_sent : (request : Request) (link : Link) → AddsAtMost request link link
nothing_sent request link = record {
  conversation = [];
  added = record {
    told = λ before h. h ∙ ap Some (sym (append-nil before));
    table = λ a before ha hb. tt;
    stays = record { steady = λ a h. h; quiet = λ a h never. refl; exact = refl };
  };
  most = tt;
}

cut : (n : ℕ) (bytes : List ℕ) → bytes ≡ take n bytes ++ drop (length (take n bytes)) bytes
cut zero bytes = refl
cut (suc n) [] = refl
cut (suc n) (b ∷ bytes) = ap (λ rest. b ∷ rest) (cut n bytes)

nothing_left : (n : ℕ) (bytes : List ℕ) → take (suc n) bytes ≡ [] → bytes ≡ []
nothing_left n [] h = refl
nothing_left n (b ∷ bytes) h = cc h

drop_further : (given n : ℕ) (body : List ℕ) → drop (given + n) body ≡ drop n (drop given body)
drop_further given n body = sym (drop-drop n given body)

none_some : {A : Type 0} {o : Option A} {x : A} → o ≡ None → o ≡ Some x → ⊥
none_some none some = cc (none, some)

-- a prefix of the rest was returned
pub takes : (body piece : List ℕ) (given : ℕ) (old new : Link) → old.rest ≡ Some (drop given body) → new.rest ≡ Some (drop (given + length piece) body) → piece ≡ take 65536 (drop given body) → old.pieces ≡ None → new.faults ≡ old.faults → EndsUnbroken old new → StaysUnbroken old new → Takes piece old new
takes body piece given old new was now is hidden calm ends unbroken = record {
  returned = λ before h. absurd (none_some hidden h);
  calm = λ h. calm;
  ends = λ none. ends;
  unbroken = unbroken;
  front = λ rest h.
      let same : drop given body ≡ rest = some_is _ _ (sym was ∙ h) in
      let parts : rest ≡ piece ++ drop (length piece) rest = subst (λ r. r ≡ piece ++ drop (length piece) r) same (subst (λ p. drop given body ≡ p ++ drop (length p) (drop given body)) (sym is) (cut 65536 (drop given body))) in (
        drop (length piece) rest,
        parts,
        now ∙ ap Some (drop_further given (length piece) body ∙ ap (drop (length piece)) same),
        λ none. sym same ∙ nothing_left 65535 (drop given body) (sym is ∙ none),
      );
}

-- the whole rest, but at most n bytes
pub take_most : (n : ℕ) (bytes : List ℕ) → take (min (length bytes) n) bytes ≡ take n bytes
take_most n bytes = by (nat_lt n (length bytes)) refl where
  by : (v : Bool) → nat_lt n (length bytes) ≡ v → take (min (length bytes) n) bytes ≡ take n bytes
  by true lt = let less : n < length bytes = grind (arith, nat_tests, lt) in ap (λ k. take k bytes) (omega (arith, less))
  by false ge = let most : length bytes ≤ n = grind (arith, nat_tests, ge) in take_all _ bytes (omega (arith, most)) ∙ sym (take_all n bytes most)
