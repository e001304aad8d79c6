-- The pulls of a case.
use Rattle.std.proofs.Common.{◌≡◌, ℕ, Bool, false, List, [], ◌∷◌, Result, Ok, Err, refl, sym, ap, ◌∙◌, subst}
use mathlib.Core.Path.{fun_ext}
use Rattle.std.specs.Prelude.{IfOk, IsErr, IsTrue, map}
use Rattle.oci_transport.specs.Link.{AnsweredBy}
use Rattle.oci_transport.specs.FaultsOnlyWhere.{faults_only_where}
use Rattle.oci_names.specs.declared.reference.Reference.{Reference}
use Rattle.oci_names.specs.Reference.{reference_of}
use Rattle.oci_protocol.specs.Runs.{Runs}
use Rattle.engine_terms.specs.Contexts.{within}
use Rattle.registry_calls.specs.Clients.{Kept, Client}
use Rattle.cosign_layers.specs.Satisfying.{CustomVerdict, policy_context}
use Rattle.cosign_parts.specs.Judge.{vouched_in}
use Rattle.cosign_parts.specs.Trust.{trust}
use Rattle.cosign_parts.specs.Verifier.{valid_in}
use Rattle.cosign_layers.specs.declared.policy.PullPolicy.{PullPolicy}
use Rattle.cosign_chain.specs.declared.image.VerifiedImage.{VerifiedImage}
use Rattle.cosign_rows.specs.Snapshots.{Snapshot, snapshot}
use Rattle.cosign_rows.specs.Sound.{Sound}
use Rattle.cosign_rows.specs.Verified.{Whole}
use Rattle.cosign_rows.specs.declared.refusal.PullRefusal.{PullRefusal}
use Rattle.cosign_laws.proofs.Causes.{pull_causes}
use Rattle.cosign_laws.proofs.Images.{Seen}
use Rattle.cosign_laws.proofs.Chains.{verified_seen}
use Rattle.cosign_laws.proofs.Meanings.{verified_same}
use Rattle.recorded_case.specs.Policy.{constraints_by, meaning_of, trust_of}
use Rattle.recorded_case.proofs.Written.{no_item_same, stands_same}
use Rattle.recorded_case.specs.declared.case.Case.{Case}
use Rattle.pulled_cases.specs.declared.report.Report.{Report}
use Rattle.cosign_client.specs.Clients.{fresh}
use Rattle.cosign_client.specs.State.{client_state}
use Rattle.pulled_cases.specs.Opening.{Opens}
use Rattle.pulled_cases.specs.declared.opening.Opened.{Opened}
use Rattle.recorded_case.specs.Registry.{answering_by}
use Rattle.recorded_case.specs.declared.registry.Registry.{Registry}
use Rattle.pulled_cases.proofs.CachedResponses.{case_backed}
use Rattle.pulled_cases.proofs.PullsInTurn.{Turns, turns}
use Rattle.pulled_cases.specs.Pulls.{PullRecord, InTurn, EachWhole, moment_of, joined, settings_of, row_of, SoundResult, EachSound, Pulled, ReportsCase}
use Rattle.pulled_cases.specs.PullsAt.{row_by, row_for, Replayed}
use Rattle.registry_cache.specs.Auths.{registry_auth}
use Rattle.registry_calls.specs.Direct.{reference_in}

-- the row of the policy that a case yields is the case's row
row_same : {V : Type 0} {H : V → Type 0} (policy : PullPolicy V H) (own : CustomVerdict V H) (case : Case) (image : Reference) → policy ≡ record { keys = case.keys; constraints = constraints_by case.constraints }
    → row_by (policy_context policy own (trust_of case)) (settings_of case) image case.auth case.accepted ≡ row_of case image
row_same {V} {H} policy own case image is =
    ap (λ (p : PullPolicy V H). row_by (policy_context p own (trust_of case)) (settings_of case) image case.auth case.accepted) is
    ∙ fun_ext (λ moment. verified_same (policy_context (record { keys = case.keys; constraints = constraints_by case.constraints }) own (trust_of case)) (meaning_of case) (within (settings_of case) moment) image case.auth case.accepted
    (no_item_same V ⊥ H (λ v. ⊥) case.constraints)
    (λ layer. stands_same V ⊥ H (λ v. ⊥) own (λ box layer. false) case.keys case.constraints (valid_in (record { rows = case.signatures })) layer) refl)

seen_sound : (case : Case) (image : Reference) (talk : PullRecord) (r : Result VerifiedImage PullRefusal) → Runs (row_of case image talk.moment) talk.before.kept talk.before.faults talk.conversation talk.after.faults talk.after.kept r
    → Seen (Sound talk.before.kept (within (settings_of case) talk.moment) (meaning_of case) image case.auth case.accepted) talk.before.faults talk.conversation talk.after.faults r
seen_sound case image talk r run = (verified_seen talk.before.kept (within (settings_of case) talk.moment) (meaning_of case) image case.auth case.accepted).seen talk.after.kept talk.before.faults talk.after.faults talk.conversation r run

result_sound : (case : Case) (image : Reference) (talk : PullRecord) (r : Result VerifiedImage PullRefusal) → Runs (row_of case image talk.moment) talk.before.kept talk.before.faults talk.conversation talk.after.faults talk.after.kept r → SoundResult case image talk r
result_sound case image talk (Ok v) run = seen_sound case image talk (Ok v) run
result_sound case image talk (Err e) run = (pull_causes (meaning_of case) (within (settings_of case) talk.moment) image case.auth case.accepted).shows talk.before.kept talk.after.kept talk.before.faults talk.after.faults talk.conversation (Err e) run

each_sound : (case : Case) (image : Reference) (start end : Snapshot) (talks : List PullRecord) → Turns (row_of case image) start talks end → EachSound case image talks
each_sound case image start end [] h = tt
each_sound case image start end (talk ∷ talks) h = (result_sound case image talk talk.result h.1, each_sound case image talk.after end talks h.2)

-- pulls in sequence of a case, over the responses of its registry
pub pulled : (case : Case) (image : Reference) (end : Snapshot) (talks : List PullRecord)
    → reference_of case.reference ≡ Ok image → map moment_of talks ≡ case.moments
    → InTurn (row_of case image) (answering_by case.registry) 0 (snapshot (fresh case.caching) 0) talks end
    → AnsweredBy (answering_by case.registry) 0 (joined talks)
    → IsTrue (faults_only_where (answering_by case.registry).fails 0 (joined talks) end.faults)
    → EachWhole talks → Pulled case talks
pulled case image end talks reads moments in_turn answered calm whole =
    let turn = turns (row_of case image) (answering_by case.registry) 0 (snapshot (fresh case.caching) 0) end talks in_turn in
    record {
      image = image;
      reads = reads;
      moments = moments;
      end = end;
      in_turn = in_turn;
      answered = answered;
      calm_is = calm;
      sound = each_sound case image (snapshot (fresh case.caching) 0) end talks turn;
      backed = case_backed case image end talks turn;
      whole = whole;
    }

-- what was replayed of a case is its report
pub reports_case : (case : Case) (image : Reference) (l : Kept) (made : Report) → reference_of case.reference ≡ Ok image
    → Replayed (row_of case image) case.registry case.moments (fresh case.caching) l made → ReportsCase case made
reports_case case image l made reads played = record {
  talks = played.talks;
  pulled = pulled case image (snapshot l played.faults) played.talks reads played.moments_are played.in_turn played.answered played.calm_is played.whole;
  written = played.written;
  refused = played.refused;
}

-- the pulls of an opened case, of any image, are those of its case
pub row_opened : {V : Type 0} {H : V → Type 0} (own : CustomVerdict V H) (case : Case) (o : Opened V H) (image : Reference) → Opens case o
    → row_by (policy_context o.terms.policy own (trust (valid_in o.terms.verifier) (vouched_in o.terms.judge) o.client.rekor_pub_keys)) (client_state o.client).settings image (registry_auth o.terms.auth) o.terms.accepted ≡ row_of case image
row_opened own case o image opens =
    rw (opens.verifier, opens.judge, opens.log_keys, opens.client, opens.auth, opens.accepted) (row_same o.terms.policy own case image opens.policy)

-- the pulls of an opened case by its terms
pub row_in_terms : {V : Type 0} {H : V → Type 0} (own : CustomVerdict V H) (case : Case) (o : Opened V H) → Opens case o
    → row_for own o.terms (client_state o.client).settings o.client.rekor_pub_keys ≡ row_of case (reference_in o.terms.image)
row_in_terms own case o opens = row_opened own case o (reference_in o.terms.image) opens

-- equal rows, registries, moments and clients
replayed_as : {row same : ℕ → Whole VerifiedImage} {registry other : Registry} {moments all : List ℕ} {k j l : Kept} {made : Report}
    → row ≡ same → registry ≡ other → moments ≡ all → k ≡ j → Replayed row registry moments k l made → Replayed same other all j l made
replayed_as {row} {same} {registry} {other} {moments} {all} {k} {j} {l} {made} rows registries times clients played =
    subst (λ (r : ℕ → Whole VerifiedImage). Replayed r other all j l made) rows
    (subst (λ (t : Registry). Replayed row t all j l made) registries
    (subst (λ (ms : List ℕ). Replayed row registry ms j l made) times
    (subst (λ (p : Kept). Replayed row registry moments p l made) clients played)))

-- what was replayed of an opened case is its report
pub reports_opened : {V : Type 0} {H : V → Type 0} (own : CustomVerdict V H) (case : Case) (o : Opened V H) (moments : List ℕ) (l : Kept) (made : Report) → moments ≡ o.moments → Opens case o
    → Replayed (row_for own o.terms (client_state o.client).settings o.client.rekor_pub_keys) o.registry moments (client_state o.client).kept l made → ReportsCase case made
reports_opened own case o moments l made moments_are opens played =
    reports_case case (reference_in o.terms.image) l made opens.image
    (replayed_as (row_in_terms own case o opens) opens.registry (moments_are ∙ opens.moments) (ap (λ (c : Client). c.kept) opens.client) played)

pub ok_weaker : {A E : Type 0} {P Q : A → Type 0} (r : Result A E) → ((a : A) → P a → Q a) → IfOk r P → IfOk r Q
ok_weaker (Ok a) more h = more a h
ok_weaker (Err e) more h = tt

pub none_made : {A E : Type 0} (P : A → Type 0) (r : Result A E) → IsErr r → IfOk r P
none_made P (Ok a) h = absurd (cc h)
none_made P (Err e) h = tt
