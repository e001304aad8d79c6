-- Pulls in sequence.
use Rattle.std.proofs.Common.{◌≡◌, ℕ, Bool, true, false, not, ◌&&◌, ◌||◌, List, [], ◌∷◌, ◌++◌, map, Result, Ok, Err, refl, sym, ap, subst, ◌∙◌, append_assoc, append-nil, arith}
use Rattle.std.specs.Prelude.{MatchBool, IsTrue, OnOk, Some, length, take, drop, get_or, ◌+◌, ◌-◌, ◌<◌, ◌≤◌}
use native.Mathlib.Numerals.{unary_clauses}
use Rattle.std.proofs.lemmas.List.{length-append, take_rest}
use Rattle.std.proofs.Math.Nat.{le-add_right}
use Rattle.std.proofs.Math.Seq.{drop-append_seam, take-suc}
use Rattle.oci_transport.specs.Link.{Link, Extends, Answering}
use Rattle.oci_transport.specs.FaultsOnlyWhere.{faults_only_where}
use Rattle.recorded_case.proofs.ShelfFaults.{shelf_calm}
use Rattle.recorded_case.specs.Registry.{answering_by}
use Rattle.recorded_case.specs.Replay.{state_of, answering_of, FaultsOnlyWhereRecorded}
use Rattle.recorded_case.specs.declared.registry.Registry.{Registry}
use Rattle.recorded_case.specs.declared.replay.Replay.{Replay}
use Rattle.recorded_case.specs.declared.replay.Replay.TheVariants.{Script, Shelf}
use Rattle.oci_transport.specs.declared.message.Exchange.{Exchange}
use Rattle.oci_protocol.specs.Runs.{Runs, RunsBy, Performs, PerformsPrefix, Meets}
use Rattle.oci_protocol.proofs.Laws.{RunsBy-runs}
use Rattle.oci_protocol.proofs.Conversations.{Extends-more}
use Rattle.registry_calls.specs.Clients.{Kept}
use Rattle.cosign_rows.specs.Refusal.{is_memory}
use Rattle.cosign_rows.specs.Snapshots.{Snapshot, snapshot}
use Rattle.cosign_rows.specs.Verified.{Whole}
use Rattle.cosign_chain.specs.declared.image.VerifiedImage.{VerifiedImage}
use Rattle.cosign_rows.specs.declared.refusal.PullRefusal.{PullRefusal}
use Rattle.pull_report.specs.Report.{report}
use Rattle.pulled_cases.specs.declared.report.Report.{Report}
use Rattle.pulled_cases.specs.Pulls.{PullRecord, moment_of, joined, report_of, reports, is_answered, is_wanting, all_answered, InTurn, EachWhole}
use Rattle.engine_terms.specs.declared.settings.Settings.{Settings}
use Rattle.json_values.specs.Places.{by_bytes}
use Rattle.std.specs.FinMap.{FinMap}
use Rattle.cosign_layers.specs.Satisfying.{CustomVerdict}
use Rattle.pulled_cases.specs.declared.opening.Terms.{Terms}
use Rattle.pulled_cases.specs.PullsAt.{row_for, PullsAt, OneMorePull, Replayed}

turn_more : (row : ℕ → Whole VerifiedImage) (t : Answering) (place : ℕ) (start end last : Snapshot) (talks : List PullRecord) (talk : PullRecord) → InTurn row t place start talks end → end ≡ talk.before → talk.after ≡ last → RunsBy t (place + length (joined talks)) (row talk.moment) talk.before.kept talk.before.faults talk.conversation talk.after.faults talk.after.kept talk.result → InTurn row t place start (talks ++ talk ∷ []) last
turn_more row t place start end last [] talk h is ends run =
    let here : RunsBy t place (row talk.moment) talk.before.kept talk.before.faults talk.conversation talk.after.faults talk.after.kept talk.result = subst (λ q. RunsBy t q (row talk.moment) talk.before.kept talk.before.faults talk.conversation talk.after.faults talk.after.kept talk.result) (omega arith) run in
    (h ∙ is, here, ends)
turn_more row t place start end last (first ∷ talks) talk h is ends run =
    let behind : place + length (joined (first ∷ talks)) ≡ (place + length first.conversation) + length (joined talks) = omega (arith, length-append first.conversation (joined talks)) in
    (h.0, h.1, turn_more row t (place + length first.conversation) first.after end last talks talk h.2 is ends (subst (λ q. RunsBy t q (row talk.moment) talk.before.kept talk.before.faults talk.conversation talk.after.faults talk.after.kept talk.result) behind run))

-- pulls in sequence, whatever the responses
abbrev pub Turns : (ℕ → Whole VerifiedImage) → Snapshot → List PullRecord → Snapshot → Type 0
Turns row start [] end = start ≡ end
Turns row start (talk ∷ talks) end =
    (start ≡ talk.before)
    × Runs (row talk.moment) talk.before.kept talk.before.faults talk.conversation talk.after.faults talk.after.kept talk.result
    × Turns row talk.after talks end

pub turns : (row : ℕ → Whole VerifiedImage) (t : Answering) (place : ℕ) (start end : Snapshot) (talks : List PullRecord) → InTurn row t place start talks end → Turns row start talks end
turns row t place start end [] h = h
turns row t place start end (talk ∷ talks) h =
    (h.0, RunsBy-runs t place (row talk.moment) talk.before.kept talk.after.kept talk.before.faults talk.after.faults talk.conversation talk.result h.1, turns row t (place + length talk.conversation) talk.after end talks h.2)

joined_more : (talks : List PullRecord) (talk : PullRecord) → joined (talks ++ talk ∷ []) ≡ joined talks ++ talk.conversation
joined_more [] talk = append-nil talk.conversation
joined_more (t ∷ talks) talk = ap (λ c. t.conversation ++ c) (joined_more talks talk) ∙ sym (append_assoc t.conversation (joined talks) talk.conversation)

reports_more : (talks : List PullRecord) (talk : PullRecord) → reports (talks ++ talk ∷ []) ≡ reports talks ++ report_of talk
reports_more [] talk = append-nil (report_of talk)
reports_more (t ∷ talks) talk = ap (λ c. report_of t ++ c) (reports_more talks talk) ∙ sym (append_assoc (report_of t) (reports talks) (report_of talk))

moments_more : (talks : List PullRecord) (talk : PullRecord) → map moment_of (talks ++ talk ∷ []) ≡ map moment_of talks ++ talk.moment ∷ []
moments_more [] talk = refl
moments_more (t ∷ talks) talk = ap (λ ms. t.moment ∷ ms) (moments_more talks talk)

whole_more : (talks : List PullRecord) (talk : PullRecord) → EachWhole talks → is_wanting talk.result ≡ false → EachWhole (talks ++ talk ∷ [])
whole_more [] talk h is = (is, tt)
whole_more (t ∷ talks) talk h is = (h.0, whole_more talks talk h.1 is)

both_and : (a b c : Bool) → (a && (b && c)) ≡ ((a && b) && c)
both_and true b c = refl
both_and false b c = refl

and_true : (a : Bool) → (a && true) ≡ a
and_true true = refl
and_true false = refl

answered_more : (talks : List PullRecord) (talk : PullRecord) → all_answered (talks ++ talk ∷ []) ≡ (all_answered talks && is_answered talk.result)
answered_more [] talk = and_true (is_answered talk.result)
answered_more (t ∷ talks) talk = ap (λ b. is_answered t.result && b) (answered_more talks talk) ∙ both_and (is_answered t.result) (all_answered talks) (is_answered talk.result)

not_both : (a b : Bool) → (not a || not b) ≡ not (a && b)
not_both true b = refl
not_both false b = refl

one_more : {row : ℕ → Whole VerifiedImage} {mid new : Link} {k l : Kept} {before after : Report} (talk : PullRecord)
    → snapshot k mid.faults ≡ talk.before → talk.after ≡ snapshot l new.faults → Extends mid new talk.conversation
    → ((t : Answering) (before : List Exchange) → mid.answers ≡ Some t → mid.told ≡ Some before → RunsBy t (length before) (row talk.moment) talk.before.kept talk.before.faults talk.conversation talk.after.faults talk.after.kept talk.result)
    → is_wanting talk.result ≡ false → after.bytes ≡ before.bytes ++ report_of talk → after.refused ≡ (before.refused || not (is_answered talk.result))
    → (moments : List ℕ) (start : Link) (j : Kept) → PullsAt row moments start mid j k before → PullsAt row (moments ++ talk.moment ∷ []) start new j l after
one_more {row} {mid} {new} {k} {l} {before} {after} talk here there told run done bytes refused moments start j rounds = record {
  talks = rounds.talks ++ talk ∷ [];
  moments_are = moments_more rounds.talks talk ∙ ap (λ ms. ms ++ talk.moment ∷ []) rounds.moments_are;
  told = rw joined_more (Extends-more start mid new (joined rounds.talks) talk.conversation rounds.told told);
  in_turn = λ t shown by telling.
      let own = run t (shown ++ joined rounds.talks) (rounds.told.stays.steady t by) (rounds.told.told shown telling) in
      turn_more row t (length shown) (snapshot j start.faults) (snapshot k mid.faults) (snapshot l new.faults) rounds.talks talk (rounds.in_turn t shown by telling) here there
      (subst (λ q. RunsBy t q (row talk.moment) talk.before.kept talk.before.faults talk.conversation talk.after.faults talk.after.kept talk.result) (length-append shown (joined rounds.talks)) own);
  whole = whole_more rounds.talks talk rounds.whole done;
  written = bytes ∙ ap (λ b. b ++ report_of talk) rounds.written ∙ sym (reports_more rounds.talks talk);
  refused = refused ∙ ap (λ b. b || not (is_answered talk.result)) rounds.refused ∙ not_both (all_answered rounds.talks) (is_answered talk.result) ∙ ap not (sym (answered_more rounds.talks talk));
}

pub round : {row : ℕ → Whole VerifiedImage} {moment : ℕ} {mid new : Link} {k l : Kept} {before after : Report} (c : List Exchange) (r : Result VerifiedImage PullRefusal)
    → Extends mid new c → ((t : Answering) (shown : List Exchange) → mid.answers ≡ Some t → mid.told ≡ Some shown → RunsBy t (length shown) (row moment) k mid.faults c new.faults l r) → is_wanting r ≡ false → after.bytes ≡ before.bytes ++ report moment c r → after.refused ≡ (before.refused || not (is_answered r)) → OneMorePull row moment mid new k l before after
round {row} {moment} {mid} {new} {k} {l} {before} {after} c r told run done bytes refused = record { more = one_more {row = row} {mid = mid} {new = new} {k = k} {l = l} {before = before} {after = after} (record { before = snapshot k mid.faults; after = snapshot l new.faults; moment = moment; conversation = c; result = r }) refl refl told run done bytes refused }

-- no pull yet
pub none_yet : {row : ℕ → Whole VerifiedImage} {link : Link} {k : Kept} (made : Report) → Extends link link [] → made.bytes ≡ [] → made.refused ≡ false → PullsAt row [] link link k k made
none_yet made told bytes refused = record { talks = []; moments_are = refl; told = told; in_turn = λ t shown by telling. refl; whole = tt; written = bytes; refused = refused }

-- a pull that did not run out of memory is complete
pub whole : {p : Whole VerifiedImage} {old new : Link} {k l : Kept} (r : Result VerifiedImage PullRefusal) → is_wanting r ≡ false → Meets is_memory p old new k l r → Performs p old new k l r
whole (Ok v) is met = met.outcome
whole {p} {old} {new} {k} {l} (Err e) is met = rw is at met.outcome

behind : (before added after : List Exchange) → after ≡ before ++ added → drop (length before) after ≡ added
behind before added after is = rw is (drop-append_seam before added)

-- a pull whose conversation is the last part of a replay's conversation
pub told_round : {row : ℕ → Whole VerifiedImage} {moment : ℕ} {mid new : Link} {k l : Kept} {before after : Report} (r : Result VerifiedImage PullRefusal) (old_told new_told : List Exchange)
    → Some old_told ≡ mid.told → Some new_told ≡ new.told → is_wanting r ≡ false → Meets is_memory (row moment) mid new k l r
    → after.bytes ≡ before.bytes ++ report moment (take (length new_told - length old_told) (drop (length old_told) new_told)) r → after.refused ≡ (before.refused || not (is_answered r)) → OneMorePull row moment mid new k l before after
told_round {row} {moment} {mid} {new} {k} {l} {before} {after} r old_told new_told old_is new_is done met bytes refused =
    let p = whole {p = row moment} {old = mid} {new = new} {k = k} {l = l} r done met in
    let all : new_told ≡ old_told ++ p.conversation = cc (new_is ∙ p.told.told old_told (sym old_is)) in
    round {row = row} {moment = moment} {mid = mid} {new = new} {k = k} {l = l} {before = before} {after = after} p.conversation r p.told p.runs_by done (bytes ∙ ap (λ (c : List Exchange). before.bytes ++ report moment c r) (take_rest new_told (length old_told) ∙ behind old_told p.conversation new_told all)) refused

-- one more pull, by the same row
pub next_round : {row same : ℕ → Whole VerifiedImage} {moments all : List ℕ} {moment : ℕ} {start mid new : Link} {j k l : Kept} {before after : Report}
    → same ≡ row → all ≡ moments ++ moment ∷ [] → PullsAt row moments start mid j k before → OneMorePull same moment mid new k l before after → PullsAt row all start new j l after
next_round {row} {same} {moments} {all} {moment} {start} {mid} {new} {j} {k} {l} {before} {after} is more rounds next =
    subst (λ (ms : List ℕ). PullsAt row ms start new j l after) (sym more) ((subst (λ (r : ℕ → Whole VerifiedImage). OneMorePull r moment mid new k l before after) is next).more moments start j rounds)

-- equal settings and equal keys of logs give equal rows
pub row_as : {V : Type 0} {H : V → Type 0} (own : CustomVerdict V H) (terms : Terms V H) {s t : Settings} {k l : FinMap by_bytes (List ℕ)} → s ≡ t → k ≡ l → row_for own terms s k ≡ row_for own terms t l
row_as own terms {s} {t} {k} {l} e f =
    ap (λ (x : Settings). row_for own terms x k) e ∙ ap (λ (x : FinMap by_bytes (List ℕ)). row_for own terms t x) f

some_is : {A : Type 0} (x y : A) → Some x ≡ Some y → x ≡ y
some_is x y h = cc h

-- a replay responds from its registry
pub answers_by : (replay : Replay) → (state_of replay).answers ≡ Some (answering_of replay)
answers_by (Script s) = refl
answers_by (Shelf t) = refl

-- all pulls over a new replay of a registry
pub played : {row : ℕ → Whole VerifiedImage} {moments : List ℕ} {k l : Kept} {made : Report} (registry : Registry) (first last : Replay)
    → (state_of first).told ≡ Some [] → (state_of first).faults ≡ 0 → (state_of first).answers ≡ Some (answering_by registry)
    → PullsAt row moments (state_of first) (state_of last) k l made → FaultsOnlyWhereRecorded last → Replayed row registry moments k l made
played {row} {moments} {k} {l} {made} registry first last told faults table rounds calm_is =
    let all = rounds.told.told [] told in
    let same : answering_of last ≡ answering_by registry = cc (sym (answers_by last) ∙ rounds.told.stays.steady (answering_by registry) table) in
    record {
      talks = rounds.talks;
      moments_are = rounds.moments_are;
      faults = (state_of last).faults;
      in_turn = subst (λ (n : ℕ). InTurn row (answering_by registry) 0 (snapshot k n) rounds.talks (snapshot l (state_of last).faults)) faults (rounds.in_turn (answering_by registry) [] table told);
      whole = rounds.whole;
      answered = rounds.told.table (answering_by registry) [] table told;
      calm_is = subst (λ (a : Answering). IsTrue (faults_only_where a.fails 0 (joined rounds.talks) (state_of last).faults)) same (calm_is (joined rounds.talks) all);
      written = rounds.written;
      refused = rounds.refused;
    }

-- a replay failed only if that is recorded
pub recorded_calm : (replay : Replay) → FaultsOnlyWhereRecorded replay
recorded_calm (Script s) = λ told is. subst (λ (c : List Exchange). IsTrue (faults_only_where (answering_of (Script s)).fails 0 c s.faults)) (some_is s.told told is) s.faults_recorded
recorded_calm (Shelf t) = λ told is. shelf_calm t.transport.served.shelf told (t.quiet told is)

calm_none : (fails : ℕ → Bool) (n : ℕ) (c : List Exchange) → [] ≡ c → IsTrue (faults_only_where fails 0 c n)
calm_none fails n c is = rw (← is) refl

-- a new replay has received no request
pub new_is_calm : (replay : Replay) → (state_of replay).told ≡ Some [] → FaultsOnlyWhereRecorded replay
new_is_calm replay is = λ told told_is. calm_none (answering_of replay).fails (state_of replay).faults told (cc (sym is ∙ told_is))

-- a property of a replay, from its conversation
pub told_is_calm : (replay : Replay) (all : List Exchange) → Some all ≡ (state_of replay).told → IsTrue (faults_only_where (answering_of replay).fails 0 all (state_of replay).faults) → FaultsOnlyWhereRecorded replay
told_is_calm replay all is holds = λ told told_is. subst (λ (c : List Exchange). IsTrue (faults_only_where (answering_of replay).fails 0 c (state_of replay).faults)) (cc (is ∙ told_is)) holds

front_le : (a c b : List Exchange) → b ≡ a ++ c → length a ≤ length b
front_le a c b is = rw (is, length-append) (le-add_right (length a) (length c))

longer : {old new : Link} (c a b : List Exchange) → Extends old new c → Some a ≡ old.told → Some b ≡ new.told → length a ≤ length b
longer c a b added a_is b_is = front_le a c b (cc (b_is ∙ added.told a (sym a_is)))

-- a call exposes at least the exchanges that were exposed before it
pub no_shorter : {p : Whole VerifiedImage} {old new : Link} {k l : Kept} (r : Result VerifiedImage PullRefusal) (a b : List Exchange) → Some a ≡ old.told → Some b ≡ new.told → Meets is_memory p old new k l r → length a ≤ length b
no_shorter (Ok v) a b a_is b_is met = longer met.outcome.conversation a b met.outcome.told a_is b_is
no_shorter {p} {old} {new} {k} {l} (Err e) a b a_is b_is met = by_memory (is_memory e) met.outcome where
  by_memory : (m : Bool) → MatchBool m (PerformsPrefix p old new k l) (Performs p old new k l (Err e)) → length a ≤ length b
  by_memory true h = longer h.conversation a b h.told a_is b_is
  by_memory false h = longer h.conversation a b h.told a_is b_is

pub from_ok : {A E P Q R S : Type 0} (r : Result A E) → OnOk r P → OnOk r Q → OnOk r R → (P → Q → R → S) → OnOk r S
from_ok (Ok a) p q r f = f p q r
from_ok (Err e) p q r f = tt

pub always : {A E P : Type 0} (r : Result A E) → P → OnOk r P
always (Ok a) p = p
always (Err e) p = tt

pub take_more : (moments : List ℕ) (i : ℕ) → i < length moments → take (i + 1) moments ≡ take i moments ++ get_or moments i 0 ∷ []
take_more moments i h = simp unary_clauses (take-suc moments i 0 h)
