-- The pulls of a case succeed if its registry is a shelf that has the image.
use Rattle.std.specs.Prelude.{nat_eq}
use Rattle.std.proofs.Common.{◌≡◌, ◌≤◌, ℕ, suc, Bool, true, false, ◌&&◌, ◌||◌, List, [], ◌∷◌, ◌++◌, Result, Ok, Err, refl, sym, ap, ◌∙◌, subst, arith}
use Rattle.std.proofs.lemmas.Bool.Decides.{nat_tests}
use Rattle.oci_transport.specs.Link.{Answering, AnsweredBy, NeverFails}
use Rattle.oci_transport.specs.FaultsOnlyWhere.{faults_only_where}
use Rattle.oci_transport.specs.declared.message.Exchange.{Exchange}
use Rattle.oci_names.specs.Reference.{reference_of}
use Rattle.oci_names.specs.declared.reference.Reference.{Reference}
use Rattle.oci_protocol.specs.Proto.{Proto, Done, Ask, Recall, Keep, Consult}
use Rattle.oci_protocol.specs.Runs.{Runs}
use Rattle.oci_protocol.proofs.Laws.{Runs-count}
use Rattle.oci_link.specs.State.{answering}
use Rattle.oci_link.specs.declared.shelf.Shelf.{Shelf}
use Rattle.shelf_laws.specs.EvaluatesWith.{OrMemory}
use Rattle.cosign_chain.specs.declared.image.VerifiedImage.{VerifiedImage}
use Rattle.cosign_rows.specs.Refusal.{is_memory}
use Rattle.cosign_rows.specs.Snapshots.{Snapshot, snapshot}
use Rattle.cosign_laws.specs.Settled.{IsSettled}
use Rattle.cosign_rows.specs.Verified.{Whole}
use Rattle.cosign_rows.specs.declared.refusal.PullRefusal.{PullRefusal}
use Rattle.cosign_laws.proofs.ShelfCalls.{new_settled}
use Rattle.cosign_laws.proofs.ShelfPulls.{run_wide, run_settled}
use Rattle.recorded_case.specs.Policy.{meaning_of}
use Rattle.recorded_case.specs.Registry.{answering_by}
use Rattle.recorded_case.specs.declared.case.Case.{Case}
use Rattle.pull_run.specs.Complete.{HasImage}
use Rattle.pulled_cases.proofs.PullsInTurn.{Turns, turns}
use Rattle.pulled_cases.specs.Pulls.{PullRecord, joined, is_answered, all_answered, is_wanting, EachWhole, settings_of, row_of, Pulled}
use Rattle.cosign_client.specs.Clients.{fresh}

-- ---- fault counts if nothing may fail

left_of : (a b : Bool) → (a && b) ≡ true → a ≡ true
left_of true b h = refl
left_of false b h = absurd (cc h)

right_of : (a b : Bool) → (a && b) ≡ true → b ≡ true
right_of true b h = h
right_of false b h = absurd (cc h)

same_count : (fails : Bool) (x y : ℕ) → fails ≡ false → (fails || nat_eq x y) ≡ true → x ≡ y
same_count fails x y never h = let eq : nat_eq x y ≡ true = ap (λ b. b || nat_eq x y) (sym never) ∙ h in grind (arith, nat_tests, eq)

-- the last fault count is that of the first exchange
last_is_first : (fails : ℕ → Bool) → ((place : ℕ) → fails place ≡ false) → (place : ℕ) (e : Exchange) (c : List Exchange) (n : ℕ) → faults_only_where fails place (e ∷ c) n ≡ true → n ≡ e.faults
last_is_first fails never place e [] n h = same_count (fails place) n e.faults (never place) (left_of (fails place || nat_eq n e.faults) true h)
last_is_first fails never place e (x ∷ c) n h =
    let first = same_count (fails place) x.faults e.faults (never place) (left_of (fails place || nat_eq x.faults e.faults) (faults_only_where fails (suc place) (x ∷ c) n) h) in
    last_is_first fails never (suc place) x c n (right_of (fails place || nat_eq x.faults e.faults) (faults_only_where fails (suc place) (x ∷ c) n) h) ∙ first

-- the first exchange was sent at the fault count before it
first_count : {K A : Type 0} (p : Proto K A) (k l : K) (m n : ℕ) (e : Exchange) (c : List Exchange) (a : A) → Runs p k m (e ∷ c) n l a → e.faults ≡ m
unfolding Runs
first_count (Done x) k l m n e c a r = absurd r
first_count (Ask request reading next) k l m n e c a r = r.2.faults_is
first_count (Recall next) k l m n e c a r = first_count (next k) k l m n e c a r
first_count (Keep kept rest) k l m n e c a r = first_count rest kept l m n e c a r
first_count (Consult next) k l m n e c a r = first_count (next r.0) k l m n e c a r.1

-- without an exchange the fault count is unchanged
none_count : {K A : Type 0} (p : Proto K A) (k l : K) (m n : ℕ) (a : A) → Runs p k m [] n l a → n ≡ m
unfolding Runs
none_count (Done x) k l m n a r = sym r.0
none_count (Ask request reading next) k l m n a r = absurd r
none_count (Recall next) k l m n a r = none_count (next k) k l m n a r
none_count (Keep kept rest) k l m n a r = none_count rest kept l m n a r
none_count (Consult next) k l m n a r = none_count (next r.0) k l m n a r.1

-- ---- the pull

never_fails : (shelf : Shelf) → NeverFails (answering shelf)
unfolding answering
never_fails shelf = λ place. refl

answered_is : (r : Result VerifiedImage PullRefusal) → OrMemory is_memory (λ (v : VerifiedImage). Unit {0}) r → is_wanting r ≡ false → is_answered r ≡ true
answered_is (Ok v) h whole = refl
answered_is (Err e) h whole = absurd (cc (sym h ∙ whole))

same_image : (case : Case) (a b : Reference) → reference_of case.reference ≡ Ok a → reference_of case.reference ≡ Ok b → a ≡ b
same_image case a b h k = cc (sym h ∙ k)

-- ---- pulls in sequence

first_empty : (c d : List Exchange) → c ++ d ≡ [] → c ≡ []
first_empty [] d is = refl
first_empty (e ∷ c) d is = absurd (cc is)

second_empty : (c d : List Exchange) → c ++ d ≡ [] → d ≡ []
second_empty [] d is = is
second_empty (e ∷ c) d is = absurd (cc is)

-- without an exchange the fault count is unchanged
turn_none : (row : ℕ → Whole VerifiedImage) (talks : List PullRecord) (start end : Snapshot) → Turns row start talks end → joined talks ≡ [] → end.faults ≡ start.faults
turn_none row [] start end turn none = ap (λ (p : Snapshot). p.faults) (sym turn)
turn_none row (talk ∷ talks) start end turn none =
    let silent = first_empty talk.conversation (joined talks) none in
    turn_none row talks talk.after end turn.2 (second_empty talk.conversation (joined talks) none)
    ∙ none_count (row talk.moment) talk.before.kept talk.after.kept talk.before.faults talk.after.faults talk.result (subst (λ (c : List Exchange). Runs (row talk.moment) talk.before.kept talk.before.faults c talk.after.faults talk.after.kept talk.result) silent turn.1)
    ∙ ap (λ (p : Snapshot). p.faults) (sym turn.0)

-- the first exchange was sent at the fault count before the pulls
turn_first : (row : ℕ → Whole VerifiedImage) (talks : List PullRecord) (start end : Snapshot) (e : Exchange) (c : List Exchange) → Turns row start talks end → joined talks ≡ e ∷ c → e.faults ≡ start.faults
turn_first row [] start end e c turn is = absurd (cc is)
turn_first row (talk ∷ talks) start end e c turn is = by_conversation talk.conversation refl (turn_first row talks talk.after end e c turn.2) ∙ ap (λ (p : Snapshot). p.faults) (sym turn.0) where
  run_of : (own : List Exchange) → talk.conversation ≡ own → Runs (row talk.moment) talk.before.kept talk.before.faults own talk.after.faults talk.after.kept talk.result
  run_of own same = subst (λ (d : List Exchange). Runs (row talk.moment) talk.before.kept talk.before.faults d talk.after.faults talk.after.kept talk.result) same turn.1

  by_conversation : (own : List Exchange) → talk.conversation ≡ own → (joined talks ≡ e ∷ c → e.faults ≡ talk.after.faults) → e.faults ≡ talk.before.faults
  by_conversation [] same later = later (ap (λ (d : List Exchange). d ++ joined talks) (sym same) ∙ is) ∙ none_count (row talk.moment) talk.before.kept talk.after.kept talk.before.faults talk.after.faults talk.result (run_of [] same)
  by_conversation (x ∷ xs) same later =
      let first : x ≡ e = cc (ap (λ (d : List Exchange). d ++ joined talks) (sym same) ∙ is) in
      ap (λ (y : Exchange). y.faults) (sym first) ∙ first_count (row talk.moment) talk.before.kept talk.after.kept talk.before.faults talk.after.faults x xs talk.result (run_of (x ∷ xs) same)

turn_count : (fails : ℕ → Bool) → ((place : ℕ) → fails place ≡ false) → (row : ℕ → Whole VerifiedImage) (talks : List PullRecord) (start end : Snapshot) → faults_only_where fails 0 (joined talks) end.faults ≡ true → Turns row start talks end → end.faults ≡ start.faults
turn_count fails never row talks start end calm_is turn = by_joined (joined talks) refl where
  by_joined : (c : List Exchange) → joined talks ≡ c → end.faults ≡ start.faults
  by_joined [] none = turn_none row talks start end turn none
  by_joined (e ∷ c) is = last_is_first fails never 0 e c end.faults (subst (λ (d : List Exchange). faults_only_where fails 0 d end.faults ≡ true) is calm_is) ∙ turn_first row talks start end e c turn is

turn_le : (row : ℕ → Whole VerifiedImage) (talks : List PullRecord) (start end : Snapshot) → Turns row start talks end → start.faults ≤ end.faults
turn_le row [] start end turn = let same : start.faults ≡ end.faults = ap (λ (p : Snapshot). p.faults) turn in omega (arith, same)
turn_le row (talk ∷ talks) start end turn =
    let same : start.faults ≡ talk.before.faults = ap (λ (p : Snapshot). p.faults) turn.0 in
    omega (arith, same, Runs-count (row talk.moment) talk.before.kept talk.after.kept talk.before.faults talk.after.faults talk.conversation talk.result turn.1, turn_le row talks talk.after end turn.2)

-- a conversation split in two parts
answered_apart : (t : Answering) (place : ℕ) (c d : List Exchange) → AnsweredBy t place (c ++ d) → AnsweredBy t place c × (there : ℕ) × AnsweredBy t there d
answered_apart t place [] d answered = (tt, place, answered)
answered_apart t place (e ∷ c) d answered = let rest = answered_apart t (suc place) c d answered.1 in ((answered.0, rest.0), rest.1, rest.2)

-- each pull by a settled client succeeds, and leaves it settled
each_answered : (case : Case) (h : HasImage case) (talks : List PullRecord) (start end : Snapshot) (place : ℕ) → start.faults ≡ 0 → end.faults ≡ 0 → IsSettled (settings_of case) h.image case.auth h.shelf start.kept → Turns (row_of case h.image) start talks end → AnsweredBy (answering h.shelf) place (joined talks) → EachWhole talks → all_answered talks ≡ true
each_answered case h [] start end place first last settled turn answered whole = refl
each_answered case h (talk ∷ talks) start end place first last settled turn answered whole =
    let row = row_of case h.image in
    let before_none : talk.before.faults ≡ 0 = ap (λ (p : Snapshot). p.faults) (sym turn.0) ∙ first in
    let grew = Runs-count (row talk.moment) talk.before.kept talk.after.kept talk.before.faults talk.after.faults talk.conversation talk.result turn.1 in
    let grows = turn_le row talks talk.after end turn.2 in
    let none : talk.after.faults ≡ 0 = omega (arith, grows, last) in
    let apart = answered_apart (answering h.shelf) place talk.conversation (joined talks) answered in
    let before = subst (λ (p : Snapshot). IsSettled (settings_of case) h.image case.auth h.shelf p.kept) turn.0 settled in
    let one = answered_is talk.result (run_wide (meaning_of case) (settings_of case) h.image case.auth case.accepted h.shelf h.wide.has talk.moment h.wide.signed talk.before.kept talk.after.kept place talk.before.faults talk.after.faults talk.conversation talk.result before apart.0 (omega (arith, none)) (omega (arith, before_none)) turn.1) whole.0 in
    let after = run_settled (meaning_of case) (settings_of case) h.image h.image case.auth case.accepted h.shelf refl talk.moment talk.before.kept talk.after.kept place talk.before.faults talk.after.faults talk.conversation talk.result before before apart.0 turn.1 in
    ap (λ b. b && all_answered talks) one ∙ each_answered case h talks talk.after end apart.1 none last after turn.2 apart.2 whole.1

pub answers_all : (case : Case) (talks : List PullRecord) → HasImage case → Pulled case talks → all_answered talks ≡ true
answers_all case talks h p =
    let start = snapshot (fresh case.caching) 0 in
    let image_is = same_image case p.image h.image p.reads h.reads in
    let turn = subst (λ (r : Reference). Turns (row_of case r) start talks p.end) image_is (turns (row_of case p.image) (answering_by case.registry) 0 start p.end talks p.in_turn) in
    let answered : AnsweredBy (answering h.shelf) 0 (joined talks) = subst (λ g. AnsweredBy (answering_by g) 0 (joined talks)) h.held p.answered in
    let calm_is : faults_only_where (answering h.shelf).fails 0 (joined talks) p.end.faults ≡ true = subst (λ g. faults_only_where (answering_by g).fails 0 (joined talks) p.end.faults ≡ true) h.held p.calm_is in
    each_answered case h talks start p.end 0 refl (turn_count (answering h.shelf).fails (never_fails h.shelf) (row_of case h.image) talks start p.end calm_is turn)
    (new_settled (settings_of case) h.image case.auth h.shelf 60 case.caching) turn answered p.whole
