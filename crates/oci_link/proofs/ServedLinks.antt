-- What a contract sees of a shelf's transports after a step of `Served`.
use Rattle.std.proofs.Common.{◌≡◌, ℕ, ◌+◌, ◌<◌, Bool, true, false, ◌||◌, not, ◌==◌, List, [], ◌∷◌, length, take, drop, Some, None, refl, sym, ap, subst, ◌∙◌, arith}
use Rattle.std.proofs.lemmas.Bool.Decides.{nat_tests}
use Rattle.oci_transport.specs.Link.{Link, BreaksOff, Answering, NeverFails, Steady, Answers, AddsUnanswered, LeavesRest, Takes}
use Rattle.oci_transport.specs.declared.message.Request.{Request}
use Rattle.oci_transport.specs.declared.message.Answer.{Answer}
use Rattle.oci_transport.specs.declared.message.AnswerHead.{AnswerHead}
use Rattle.oci_transport.specs.declared.message.Exchange.{Exchange}
use Rattle.oci_link.specs.Served.{IsAnswered, IsUnanswered, GivesPiece}
use Rattle.oci_link.specs.State.{answering, failing, is_among, link_of}
use Rattle.oci_link.specs.Table.{answer}
use Rattle.oci_link.specs.declared.shelf.Shelf.{Shelf}
use Rattle.oci_link.specs.declared.served.Served.{Served}
use Rattle.oci_link.proofs.LinkSteps.{same_table, told_next, answered_next, takes}

pub answering-answer : (shelf : Shelf) (place : ℕ) (request : Request) → (answering shelf).answer place request ≡ Some (answer shelf request)
unfolding answering
answering-answer shelf place request = refl

pub failing-answer : (shelf : Shelf) (sends pieces : List ℕ) (place : ℕ) (request : Request) → is_among place sends ≡ false → (failing shelf sends pieces).answer place request ≡ Some (answer shelf request)
unfolding failing
failing-answer shelf sends pieces place request not_there = rw not_there refl

pub failing-none : (shelf : Shelf) (sends pieces : List ℕ) (place : ℕ) (request : Request) → is_among place sends ≡ true → (failing shelf sends pieces).answer place request ≡ None
unfolding failing
failing-none shelf sends pieces place request there = rw there refl

either : (a b : Bool) → b ≡ true → (a || b) ≡ true
either true b h = refl
either false b h = h

-- if a send fails, something may fail
pub send_may_fail : (shelf : Shelf) (sends pieces : List ℕ) (place : ℕ) → is_among place sends ≡ true → NeverFails (failing shelf sends pieces) → ⊥
unfolding failing
send_may_fail shelf sends pieces place there never = let one : (is_among place sends || not (length pieces == 0)) ≡ false = never place in let two : (true || not (length pieces == 0)) ≡ false = subst (λ v. (v || not (length pieces == 0)) ≡ false) there one in cc two

some_piece : (n : ℕ) (pieces : List ℕ) → is_among n pieces ≡ true → not (length pieces == 0) ≡ true
some_piece n [] there = cc there
some_piece n (p ∷ pieces) there = grind (arith, nat_tests)

pub piece_may_fail : (shelf : Shelf) (sends pieces : List ℕ) (n : ℕ) → is_among n pieces ≡ true → NeverFails (failing shelf sends pieces) → ⊥
unfolding failing
piece_may_fail shelf sends pieces n there never = let one : (is_among 0 sends || not (length pieces == 0)) ≡ false = never 0 in cc (sym (either (is_among 0 sends) (not (length pieces == 0)) (some_piece n pieces there)) ∙ one)

pub sent : (a b : Answering) (faults : ℕ) (old new : Served) (request : Request) (head : AnswerHead) → IsAnswered request head faults old new → a.answer (length old.told) request ≡ Some (answer old.shelf request) → b ≡ a → Answers request head (link_of old faults a) (link_of new faults b)
sent a b faults old new request head step by same =
    answered_next a (link_of old faults a) (link_of new faults b) old.told request head (answer old.shelf request) refl (ap Some same) refl refl refl (ap Some step.told) by step.status step.headers (ap (λ n. Some (drop n new.body)) step.given ∙ ap Some step.body)

pub failed : (a b : Answering) (faults raised : ℕ) (old new : Served) (request : Request) → IsUnanswered request faults old new → a.answer (length old.told) request ≡ None → b ≡ a → (NeverFails a → raised ≡ faults) → AddsUnanswered request (link_of old faults a) (link_of new raised b)
failed a b faults raised old new request step by same quiet =
    told_next a (link_of old faults a) (link_of new raised b) old.told (record { request = request; answer = None; faults = faults }) refl (ap Some same) refl quiet refl (ap Some step.told) (sym by)

-- after a failed send nothing is returned
pub nothing : (a b : Answering) (faults raised : ℕ) (old new : Served) (request : Request) → IsUnanswered request faults old new → LeavesRest [] (link_of old faults a) (link_of new raised b)
nothing a b faults raised old new request step = λ before h. ap (λ n. Some (drop n new.body)) step.given ∙ ap Some step.body

pub stays : (a b : Answering) (faults raised : ℕ) (old new : Served) → b ≡ a → (NeverFails a → raised ≡ faults) → Steady (link_of old faults a) (link_of new raised b)
stays a b faults raised old new same quiet = same_table a (link_of old faults a) (link_of new raised b) refl (ap Some same) refl quiet

-- no body is truncated
pub whole_bodies : (shelf : Shelf) (place : ℕ) → (answering shelf).breaks place ≡ None
unfolding answering
whole_bodies shelf place = refl

pub bodies_unknown : (shelf : Shelf) (sends pieces : List ℕ) (place : ℕ) → (failing shelf sends pieces).breaks place ≡ None
unfolding failing
bodies_unknown shelf sends pieces place = refl

unbroken : (a : Answering) (faults : ℕ) (old : Served) → ((place : ℕ) → a.breaks place ≡ None) → (e : Exchange) (answer : Answer) (bytes : ℕ) → BreaksOff e answer bytes (link_of old faults a) → ⊥
unbroken a faults old never e answer bytes b =
    let same : a ≡ b.table = cc b.answers in
    let here : a.breaks (length b.before) ≡ Some bytes = ap (λ (x : Answering). x.breaks (length b.before)) same ∙ b.breaks in
    let some : Some bytes ≡ None = sym here ∙ never (length b.before) in
    cc some

pub gives : (a b : Answering) (faults : ℕ) (old new : Served) (piece : List ℕ) → ((place : ℕ) → a.breaks place ≡ None) → GivesPiece piece old new → Takes piece (link_of old faults a) (link_of new faults b)
gives a b faults old new piece never step = takes old.body piece old.given (link_of old faults a) (link_of new faults b) refl (ap Some (ap (λ n. drop n new.body) step.given ∙ ap (drop (old.given + length piece)) step.body)) step.piece_is refl refl (λ e answer bytes is. absurd (unbroken a faults old never e answer bytes is)) (λ e answer bytes is past. absurd (unbroken a faults old never e answer bytes is))

some_is : {A : Type 0} (x y : A) → Some x ≡ Some y → x ≡ y
some_is x y h = cc h

-- each piece has 65536 bytes, except the last one
pub sized : (a : Answering) (faults : ℕ) (old new : Served) (piece : List ℕ) → GivesPiece piece old new → (rest : List ℕ) → (link_of old faults a).rest ≡ Some rest → piece ≡ take 65536 rest
sized a faults old new piece step rest is = step.piece_is ∙ ap (take 65536) (some_is _ _ is)
