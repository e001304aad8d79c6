-- A review over a replay is one over what the settings say.
use Rattle.std.proofs.Common.{◌≡◌, ◌∙◌, ℕ, false, List, [], ◌∷◌, length, Some, None, refl, sym, ap, subst, arith}
use Rattle.std.specs.Prelude.{IsTrue, get_or}
use Rattle.oci_transport.specs.FaultsOnlyWhere.{faults_only_where}
use Rattle.oci_transport.specs.Link.{Link, Answering, AnsweredBy}
use Rattle.oci_transport.specs.declared.message.Exchange.{Exchange}
use Rattle.oci_names.specs.declared.reference.Reference.{Reference}
use Rattle.registry_calls.specs.Clients.{Kept}
use Rattle.cosign_client.specs.Clients.{fresh}
use Rattle.cosign_client.specs.State.{client_state}
use Rattle.cosign_layers.specs.Satisfying.{CustomVerdict}
use Rattle.cosign_rows.specs.Snapshots.{snapshot}
use Rattle.recorded_case.specs.Registry.{answering_by}
use Rattle.recorded_case.specs.Replay.{state_of, answering_of}
use Rattle.recorded_case.specs.declared.case.Case.{Case}
use Rattle.recorded_case.specs.declared.registry.Registry.{Registry}
use Rattle.recorded_case.specs.declared.replay.Replay.{Replay}
use Rattle.pulled_cases.proofs.Cases.{row_opened}
use Rattle.pulled_cases.proofs.PullsInTurn.{answers_by}
use Rattle.pulled_cases.specs.Opening.{Opens}
use Rattle.pulled_cases.specs.declared.opening.Opened.{Opened}
use Rattle.pulled_cases.specs.declared.report.Report.{Report}
use Rattle.pull_admit.proofs.OneImages.{reviewed_as, one_each}
use Rattle.pull_admit.specs.Decided.{PullTerms, Reviewed, Reviews, pull_of}
use Rattle.pod_reviews.specs.declared.asked.Review.{Review}
use Rattle.pull_admit.specs.declared.decision.Decision.{Decision}
use Rattle.pod_reviews.specs.declared.images.ReviewImage.{ReviewImage}
use Rattle.pull_admit.specs.Replayed.{RespondsOver, terms_for}
use Rattle.pull_admit.specs.ReviewResponses.{IsResponse, ReportsReview, terms_of}

-- there is one decision for each image of a review
pub decisions_each : {V : Type 0} {H : V → Type 0} {t : PullTerms V H} {xs : List ReviewImage} {old new : Link} {k l : Kept} {ds : List Decision} → Reviews t xs old new k l ds → length ds ≡ length xs
decisions_each {V} {H} {t} {xs} {old} {new} {k} {l} {ds} h = one_each None 0 t xs ds (snapshot k old.faults) (snapshot l new.faults) h.conversation h.reviewed

-- a review over a new replay of a registry, with its response
pub responds : {V : Type 0} {H : V → Type 0} {t : PullTerms V H} {k l : Kept} {ds : List Decision} {made : Report} (registry : Registry) (first last : Replay) (asked : Review) (told : List Exchange)
    → (state_of first).told ≡ Some [] → (state_of first).faults ≡ 0 → (state_of first).answers ≡ Some (answering_by registry)
    → Some told ≡ (state_of last).told → IsTrue (faults_only_where (answering_of last).fails 0 told (state_of last).faults)
    → Reviews t asked.images (state_of first) (state_of last) k l ds → IsResponse asked ds made → RespondsOver t registry k asked made
responds {V} {H} {t} {k} {l} {ds} {made} registry first last asked told none zero table told_is calm reviews response =
    let all : told ≡ reviews.conversation = cc (told_is ∙ reviews.told.told [] none) in
    let same : answering_of last ≡ answering_by registry = cc (sym (answers_by last) ∙ reviews.told.stays.steady (answering_by registry) table) in
    record {
      decisions = ds;
      conversation = reviews.conversation;
      end = snapshot l (state_of last).faults;
      reviewed = subst (λ (n : ℕ). Reviewed (Some (answering_by registry)) 0 t asked.images (snapshot k n) reviews.conversation (snapshot l (state_of last).faults) ds) zero
          (reviews.reviewed_by (answering_by registry) [] table none);
      answered = reviews.told.table (answering_by registry) [] table none;
      calm_is = subst (λ (a : Answering). IsTrue (faults_only_where a.fails 0 reviews.conversation (state_of last).faults)) same
          (subst (λ (c : List Exchange). IsTrue (faults_only_where (answering_of last).fails 0 c (state_of last).faults)) all calm);
      response = response;
    }

-- the pulls of an opened case, of any image, are those of the settings
pulls_opened : {V : Type 0} {H : V → Type 0} (own : CustomVerdict V H) (case : Case) (o : Opened V H) (moment : ℕ) → Opens case o → (image : Reference)
    → pull_of (terms_for own o.terms o.client.rekor_pub_keys (client_state o.client).settings moment) image ≡ pull_of (terms_of case moment) image
pulls_opened own case o moment opens image = ap (λ row. row moment) (row_opened own case o image opens)

-- one moment is the list of the first
one_moment : (moments : List ℕ) → length moments ≡ 1 → moments ≡ get_or moments 0 0 ∷ []
one_moment [] once = absurd (omega (arith, once))
one_moment (m ∷ []) once = refl
one_moment (m ∷ n ∷ moments) once = absurd (omega (arith, once))

-- what was answered over the registry of an opened case is the output for the review
pub reports : {V : Type 0} {H : V → Type 0} (own : CustomVerdict V H) (case : Case) (o : Opened V H) (moment : ℕ) (asked : Review) (made : Report)
    → case.caching ≡ false → Opens case o → case.moments ≡ moment ∷ []
    → RespondsOver (terms_for own o.terms o.client.rekor_pub_keys (client_state o.client).settings moment) o.registry (client_state o.client).kept asked made
    → ReportsReview (record { settings = case; review = asked }) made
reports own case o moment asked made plain opens moments made_by =
    let t = terms_for own o.terms o.client.rekor_pub_keys (client_state o.client).settings moment in
    let kept : (client_state o.client).kept ≡ fresh false = ap (λ c. c.kept) opens.client ∙ ap fresh plain in
    record {
      moment = moment;
      moment_is = moments;
      decisions = made_by.decisions;
      decided = record {
        conversation = made_by.conversation;
        end = made_by.end;
        reviewed = subst (λ (r : Registry). Reviewed (Some (answering_by r)) 0 (terms_of case moment) asked.images (snapshot (fresh false) 0) made_by.conversation made_by.end made_by.decisions) opens.registry
            (subst (λ (k : Kept). Reviewed (Some (answering_by o.registry)) 0 (terms_of case moment) asked.images (snapshot k 0) made_by.conversation made_by.end made_by.decisions) kept
            (reviewed_as (Some (answering_by o.registry)) 0 t (terms_of case moment) asked.images made_by.decisions (snapshot (client_state o.client).kept 0) made_by.end made_by.conversation
            (pulls_opened own case o moment opens) made_by.reviewed));
        answered = subst (λ (r : Registry). AnsweredBy (answering_by r) 0 made_by.conversation) opens.registry made_by.answered;
        calm_is = subst (λ (r : Registry). IsTrue (faults_only_where (answering_by r).fails 0 made_by.conversation made_by.end.faults)) opens.registry made_by.calm_is;
      };
      response = made_by.response;
    }

-- the same at the one moment of the settings
pub reports_once : {V : Type 0} {H : V → Type 0} (own : CustomVerdict V H) (case : Case) (o : Opened V H) (moments : List ℕ) (asked : Review) (made : Report)
    → moments ≡ o.moments → length o.moments ≡ 1 → case.caching ≡ false → Opens case o
    → RespondsOver (terms_for own o.terms o.client.rekor_pub_keys (client_state o.client).settings (get_or moments 0 0)) o.registry (client_state o.client).kept asked made
    → ReportsReview (record { settings = case; review = asked }) made
reports_once own case o moments asked made same once plain opens over =
    reports own case o (get_or moments 0 0) asked made plain opens (sym opens.moments ∙ sym same ∙ one_moment moments (ap length same ∙ once)) over
