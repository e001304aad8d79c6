-- One pull of a case with one moment.
use Rattle.std.proofs.Common.{◌≡◌, ℕ, false, List, [], ◌∷◌, ◌++◌, Some, Ok, refl, sym, ap, subst, ◌∙◌, append-nil}
use Rattle.std.specs.Prelude.{IsTrue, IfOk, OnOk, Result, Err, length, get_or}
use Rattle.std.specs.declared.alloc.AllocError.{AllocError}
use Rattle.cosign_rows.specs.declared.refusal.PullRefusal.{PullRefusal}
use Rattle.oci_names.specs.Reference.{reference_of}
use Rattle.oci_names.specs.declared.reference.Reference.{Reference}
use Rattle.oci_transport.specs.Link.{Answering, AnsweredBy}
use Rattle.oci_transport.specs.FaultsOnlyWhere.{faults_only_where}
use Rattle.oci_transport.specs.declared.message.Exchange.{Exchange}
use Rattle.oci_protocol.specs.Runs.{RunsBy, Meets, Performs}
use Rattle.registry_calls.specs.Clients.{Kept, Client}
use Rattle.registry_calls.specs.Direct.{reference_in}
use Rattle.cosign_layers.specs.Satisfying.{CustomVerdict}
use Rattle.cosign_rows.specs.Refusal.{is_memory}
use Rattle.cosign_rows.specs.Snapshots.{Snapshot, snapshot}
use Rattle.cosign_rows.specs.Verified.{Whole}
use Rattle.cosign_chain.specs.declared.image.VerifiedImage.{VerifiedImage}
use Rattle.cosign_client.specs.Clients.{fresh}
use Rattle.cosign_client.specs.State.{client_state}
use Rattle.recorded_case.specs.Registry.{answering_by}
use Rattle.recorded_case.specs.Replay.{state_of, answering_of}
use Rattle.recorded_case.specs.declared.case.Case.{Case}
use Rattle.recorded_case.specs.declared.registry.Registry.{Registry}
use Rattle.recorded_case.specs.declared.replay.Replay.{Replay}
use Rattle.pulled_cases.proofs.Cases.{pulled, row_in_terms}
use Rattle.pulled_cases.proofs.PullsInTurn.{answers_by, recorded_calm, whole}
use Rattle.pulled_cases.specs.Once.{PulledOnce}
use Rattle.pulled_cases.specs.Opening.{Opens}
use Rattle.pulled_cases.specs.Pulls.{PullRecord, row_of, is_wanting}
use Rattle.pulled_cases.specs.PullsAt.{row_for}
use Rattle.pulled_cases.specs.declared.once.OnePull.{OnePull}
use Rattle.pulled_cases.specs.declared.opening.Opened.{Opened}

only_one : (moments : List ℕ) → length moments ≡ 1 → get_or moments 0 0 ∷ [] ≡ moments
only_one [] is = absurd (cc is)
only_one (moment ∷ []) is = refl
only_one (moment ∷ (next ∷ rest)) is = absurd (cc is)

-- a pull over a new replay of the case's registry, by a new client
performed_once : (case : Case) (image : Reference) (moment : ℕ) (first : Replay) (l : Kept) (p : OnePull)
    → reference_of case.reference ≡ Ok image → moment ∷ [] ≡ case.moments
    → (state_of first).told ≡ Some [] → (state_of first).faults ≡ 0 → (state_of first).answers ≡ Some (answering_by case.registry)
    → is_wanting p.outcome ≡ false
    → Performs (row_of case image moment) (state_of first) (state_of p.replay) (fresh case.caching) l p.outcome → PulledOnce case p
performed_once case image moment first l p reads moments told faults table done made =
    let t : Answering = answering_by case.registry in
    let c : List Exchange = made.conversation in
    let all : (state_of p.replay).told ≡ Some c = made.told.told [] told in
    let same : answering_of p.replay ≡ t = cc (sym (answers_by p.replay) ∙ made.told.stays.steady t table) in
    let joined_is : c ≡ c ++ [] = sym (append-nil c) in
    let end : Snapshot = snapshot l (state_of p.replay).faults in
    let talk : PullRecord = record { before = snapshot (fresh case.caching) 0; after = end; moment = moment; conversation = c; result = p.outcome } in
    record {
      talk = talk;
      pulled = pulled case image end (talk ∷ []) reads moments
          (refl, subst (λ (n : ℕ). RunsBy t 0 (row_of case image moment) (fresh case.caching) n c (state_of p.replay).faults l p.outcome) faults (made.runs_by t [] table told), refl)
          (subst (AnsweredBy t 0) joined_is (made.told.table t [] table told))
          (subst (λ (d : List Exchange). IsTrue (faults_only_where t.fails 0 d (state_of p.replay).faults)) joined_is
          (subst (λ (a : Answering). IsTrue (faults_only_where a.fails 0 c (state_of p.replay).faults)) same (recorded_calm p.replay c all)))
          (done, tt);
      outcome = refl;
      told = all;
    }

-- the same for an opened case
pub pulled_once : {V : Type 0} {H : V → Type 0} (own : CustomVerdict V H) (case : Case) (o : Opened V H) (first : Replay) (l : Kept) (p : OnePull)
    → length o.moments ≡ 1 → Opens case o
    → (state_of first).told ≡ Some [] → (state_of first).faults ≡ 0 → (state_of first).answers ≡ Some (answering_by o.registry)
    → is_wanting p.outcome ≡ false
    → Meets is_memory (row_for own o.terms (client_state o.client).settings o.client.rekor_pub_keys (get_or o.moments 0 0)) (state_of first) (state_of p.replay) (client_state o.client).kept l p.outcome
    → PulledOnce case p
pulled_once own case o first l p one opens told faults table done met =
    let image : Reference = reference_in o.terms.image in
    let moment : ℕ = get_or o.moments 0 0 in
    let by_case : Meets is_memory (row_of case image moment) (state_of first) (state_of p.replay) (client_state o.client).kept l p.outcome =
    subst (λ (row : ℕ → Whole VerifiedImage). Meets is_memory (row moment) (state_of first) (state_of p.replay) (client_state o.client).kept l p.outcome) (row_in_terms own case o opens) met in
    let fresh_by : Meets is_memory (row_of case image moment) (state_of first) (state_of p.replay) (fresh case.caching) l p.outcome =
    subst (λ (k : Kept). Meets is_memory (row_of case image moment) (state_of first) (state_of p.replay) k l p.outcome) (ap (λ (c : Client). c.kept) opens.client) by_case in
    performed_once case image moment first l p opens.image (only_one o.moments one ∙ opens.moments) told faults
    (table ∙ ap (λ (r : Registry). Some (answering_by r)) opens.registry) done
    (whole {p = row_of case image moment} {old = state_of first} {new = state_of p.replay} {k = fresh case.caching} {l = l} p.outcome done fresh_by)

-- the same of its result, unless memory ran out in it
pub pulled_first : {V : Type 0} {H : V → Type 0} (own : CustomVerdict V H) (case : Case) (o : Opened V H) (first last : Replay) (l : Kept) (moments : List ℕ) (moment : ℕ) (outcome : Result VerifiedImage PullRefusal) (r : Result OnePull AllocError)
    → length o.moments ≡ 1 → moments ≡ o.moments → moment ≡ get_or moments 0 0 → Opens case o
    → (state_of first).told ≡ Some [] → (state_of first).faults ≡ 0 → (state_of first).answers ≡ Some (answering_by o.registry)
    → Meets is_memory (row_for own o.terms (client_state o.client).settings o.client.rekor_pub_keys moment) (state_of first) (state_of last) (client_state o.client).kept l outcome
    → IfOk r (λ made. (made.outcome ≡ outcome) × (made.replay ≡ last)) → OnOk r (is_wanting outcome ≡ false) → IfOk r (PulledOnce case)
pulled_first own case o first last l moments moment outcome (Err e) one moments_are moment_is opens told faults table met parts done = tt
pulled_first own case o first last l moments moment outcome (Ok p) one moments_are moment_is opens told faults table met parts done =
    let row : ℕ → Whole VerifiedImage = row_for own o.terms (client_state o.client).settings o.client.rekor_pub_keys in
    let at : moment ≡ get_or o.moments 0 0 = moment_is ∙ ap (λ (ms : List ℕ). get_or ms 0 0) moments_are in
    let timed : Meets is_memory (row (get_or o.moments 0 0)) (state_of first) (state_of last) (client_state o.client).kept l outcome =
    subst (λ (m : ℕ). Meets is_memory (row m) (state_of first) (state_of last) (client_state o.client).kept l outcome) at met in
    let ended : Meets is_memory (row (get_or o.moments 0 0)) (state_of first) (state_of last) (client_state o.client).kept l p.outcome =
    subst (λ (x : Result VerifiedImage PullRefusal). Meets is_memory (row (get_or o.moments 0 0)) (state_of first) (state_of last) (client_state o.client).kept l x) (sym parts.0) timed in
    pulled_once own case o first l p one opens told faults table
    (subst (λ (x : Result VerifiedImage PullRefusal). is_wanting x ≡ false) (sym parts.0) done)
    (subst (λ (q : Replay). Meets is_memory (row (get_or o.moments 0 0)) (state_of first) (state_of q) (client_state o.client).kept l p.outcome) (sym parts.1) ended)
