-- A course by given terms is a live pull by the settings, and is justified.
use Rattle.std.proofs.Common.{◌≡◌, ℕ, true, List, Some, None, Result, Ok, Err, inl, inr, sym, ap, ◌∙◌, subst}
use Rattle.std.specs.FinMap.{FinMap}
use Rattle.json_values.specs.Places.{by_bytes}
use Rattle.oci_names.specs.declared.reference.Reference.{Reference}
use Rattle.oci_names.specs.Reference.{mirror_of}
use Rattle.engine_rows.specs.Confined.{Within}
use Rattle.engine_rows.specs.Held.{pulling}
use Rattle.engine_terms.specs.declared.settings.Settings.{Settings}
use Rattle.registry_calls.specs.Clients.{Client as State, Kept}
use Rattle.registry_calls.specs.Direct.{reference_in}
use Rattle.cosign_client.specs.Clients.{fresh}
use Rattle.cosign_client.specs.State.{client_state}
use Rattle.cosign_layers.specs.Satisfying.{CustomVerdict, policy_context}
use Rattle.cosign_layers.specs.declared.policy.PullPolicy.{PullPolicy}
use Rattle.cosign_chain.specs.declared.verified_documents.VerifiedDocuments.{VerifiedDocuments}
use Rattle.cosign_rows.specs.Snapshots.{snapshot}
use Rattle.cosign_rows.specs.Sound.{AnsweredOrFresh}
use Rattle.cosign_rows.specs.Verified.{Whole}
use Rattle.cosign_rows.specs.declared.found.TrustedLayers.{TrustedLayers}
use Rattle.cosign_rows.specs.declared.refusal.PullRefusal.{PullRefusal}
use Rattle.cosign_laws.proofs.Collected.{collected_cause, collected_confined}
use Rattle.cosign_laws.proofs.Decided.{decided_cause, decided_confined, decided_hold, decided_over}
use Rattle.cosign_laws.proofs.Sound.{collected_answered}
use Rattle.cosign_rows.specs.DocumentCauses.{DecidedCause, DocumentsCause}
use Rattle.cosign_rows.specs.Rows.{collected, decided}
use Rattle.cosign_rows.specs.DocumentsSound.{DecidedOver}
use Rattle.live_host.specs.Everyone.{everyone}
use Rattle.live_host.specs.Wire.{Wire}
use Rattle.live_host.specs.declared.answers.Answers.{Answers}
use Rattle.live_host.specs.declared.streams.HostError.{HostError}
use Rattle.live_pull.specs.Justified.{Confined}
use Rattle.live_pull.specs.Live.{Ends}
use Rattle.live_pull.specs.Parts.{DeliversBy, IsKept, Prepares}
use Rattle.live_pull.specs.Pulls.{Transfer, client_settings, context_of, meaning_of, trust_of}
use Rattle.live_pull.specs.declared.live.Prepared.{Prepared}
use Rattle.live_pull.specs.declared.pulls.Terms.{Terms}
use Rattle.live_pull.specs.declared.settings.LiveSettings.{LiveSettings}
use Rattle.live_pull.specs.declared.status.Status.{Status}
use Rattle.live_pull.specs.declared.status.Status.TheVariants as status
use Rattle.live_pull.proofs.Policies.{policy_is}
use Rattle.live_pull.specs.Course.{AfterSearchBy, Asking, AskingCut, CourseBy, DocumentsCut, DocumentsTold, Giving, NothingTold}
use Rattle.live_pull.specs.Decided.{DecidedDocuments, DecidedFrom, Decides, LiveDocumentsCut, Undecided, UndecidedFrom}
use Rattle.live_pull.specs.DocumentsJustified.{AfterJustified, DecisionJustified, FoundJustified, JustifiedBy}
use Rattle.live_pull.specs.LiveDocuments.{LiveDocuments}
use Rattle.live_pull.specs.Rows.{asks_for, asks_of, collect_for, collect_row, decide_for, decide_row, everyone_of}
use Rattle.live_pull.specs.Status.{StatusCause}
use Rattle.live_pull.specs.DocumentsTerms.{AreTerms}
use Rattle.live_pull.proofs.CourseParts.{decides_as}
use Rattle.live_pull.proofs.EarlyEnds.{caused_as}
use Rattle.live_pull.proofs.RowsSame.{collected_same, decided_same}
use Rattle.live_pull.proofs.Transfers.{meets, holds_by}

-- ---- the rows by these terms are those of the settings

-- the client of a decision has the settings, and the terms are theirs
pub record ByTerms {V : Type 0} {H : V → Type 0} (settings : LiveSettings) (terms : Terms V H) (logs : FinMap by_bytes (List ℕ)) (s : Settings) : Type 0 where
  pub terms_are : AreTerms settings terms
  pub client : s ≡ client_settings settings
  pub logs_are : logs ≡ settings.log_keys

collect_is : {V : Type 0} {H : V → Type 0} (own : CustomVerdict V H) (settings : LiveSettings) (terms : Terms V H) (logs : FinMap by_bytes (List ℕ)) (s : Settings) → ByTerms settings terms logs s
    → collect_for own terms logs s ≡ collect_row settings (reference_in terms.image)
collect_is {V} {H} own settings terms logs s by =
    rw (by.client, by.logs_are, by.terms_are.moment, by.terms_are.auth)
    (ap (λ (policy : PullPolicy V H). collected (policy_context policy own (everyone settings.log_keys)) (context_of settings) (reference_in terms.image) settings.auth) (policy_is terms.policy settings by.terms_are.keys by.terms_are.constraints)
    ∙ collected_same own settings.keys settings.constraints (everyone settings.log_keys) (context_of settings) (reference_in terms.image) settings.auth)

decide_is : {V : Type 0} {H : V → Type 0} (own : CustomVerdict V H) (settings : LiveSettings) (terms : Terms V H) (logs : FinMap by_bytes (List ℕ)) (s : Settings) (answers : Answers) (found : TrustedLayers) → ByTerms settings terms logs s
    → decide_for own terms logs s answers found ≡ decide_row settings (reference_in terms.image) answers found
decide_is {V} {H} own settings terms logs s answers found by =
    rw (by.client, by.logs_are, by.terms_are.moment, by.terms_are.auth)
    (ap (λ (policy : PullPolicy V H). decided (policy_context policy own (trust_of settings answers)) (context_of settings) (reference_in terms.image) settings.auth found) (policy_is terms.policy settings by.terms_are.keys by.terms_are.constraints)
    ∙ decided_same own settings.keys settings.constraints (trust_of settings answers) (context_of settings) (reference_in terms.image) settings.auth found)

-- ---- justified

module _ (Gives : Giving) (settings : LiveSettings) (image : Reference) (direct : mirror_of image ≡ None) where
  search_justified : (k l : Kept) (old new : Wire) (r : Result TrustedLayers PullRefusal) → IsKept r → (t : Transfer (collect_row settings image) old new k l r) → FoundJustified (everyone_of settings) (context_of settings) image settings.auth k l t.conversation t.faults r
  search_justified k l old new (Ok found) kept t =
      holds_by (collect_row settings image) (λ c. AnsweredOrFresh k (context_of settings) image settings.auth c found.digest) old new k l (Ok found) t
      (collected_answered (context_of settings) (everyone_of settings) image settings.auth k (Ok found) (meets (collect_row settings image) old new k l (Ok found) kept t))
  search_justified k l old new (Err e) kept t =
      holds_by (collect_row settings image) (λ c. DocumentsCause (everyone_of settings) (context_of settings) image settings.auth (snapshot k 0) c (snapshot l t.faults) e) old new k l (Err e) t
      (collected_cause (everyone_of settings) (context_of settings) image settings.auth (Err e) (meets (collect_row settings image) old new k l (Err e) kept t))

  pub search_confined : (k l : Kept) (old new : Wire) (r : Result TrustedLayers PullRefusal) → IsKept r → (t : Transfer (collect_row settings image) old new k l r) → Confined (context_of settings) image settings.auth k l t.conversation
  search_confined k l old new r kept t =
      holds_by (collect_row settings image) (λ c. Within (pulling k.0 (context_of settings) image (Some settings.auth)) (context_of settings).settings l.0 c) old new k l r t
      (collected_confined (everyone_of settings) (context_of settings) image settings.auth r direct (meets (collect_row settings image) old new k l r kept t))

  decision_justified : (answers : Answers) (found : TrustedLayers) (k l : Kept) (old new : Wire) (r : Result VerifiedDocuments PullRefusal) → IsKept r → (t : Transfer (decide_row settings image answers found) old new k l r) → DecisionJustified (meaning_of settings answers) (context_of settings) image settings.auth found k l t.conversation t.faults r
  decision_justified answers found k l old new (Ok d) kept t =
      let met = meets (decide_row settings image answers found) old new k l (Ok d) kept t in (
        decided_hold (meaning_of settings answers) (context_of settings) image settings.auth found (Ok d) met,
        holds_by (decide_row settings image answers found) (λ c. DecidedOver found c d) old new k l (Ok d) t (decided_over (meaning_of settings answers) (context_of settings) image settings.auth found (Ok d) met),
      )
  decision_justified answers found k l old new (Err e) kept t =
      holds_by (decide_row settings image answers found) (λ c. DecidedCause (meaning_of settings answers) (context_of settings) image settings.auth found (snapshot k 0) c (snapshot l t.faults) e) old new k l (Err e) t
      (decided_cause (meaning_of settings answers) (context_of settings) image settings.auth found (Err e) (meets (decide_row settings image answers found) old new k l (Err e) kept t))

  decision_confined : (answers : Answers) (found : TrustedLayers) (k l : Kept) (old new : Wire) (r : Result VerifiedDocuments PullRefusal) → IsKept r → (t : Transfer (decide_row settings image answers found) old new k l r) → Confined (context_of settings) image settings.auth k l t.conversation
  decision_confined answers found k l old new r kept t =
      holds_by (decide_row settings image answers found) (λ c. Within (pulling k.0 (context_of settings) image (Some settings.auth)) (context_of settings).settings l.0 c) old new k l r t
      (decided_confined (meaning_of settings answers) (context_of settings) image settings.auth found r direct (meets (decide_row settings image answers found) old new k l r kept t))

  after_justified : (k l : Kept) (found : Result TrustedLayers PullRefusal) (old new : Wire) (r : Result VerifiedDocuments PullRefusal) → IsKept r → (after : AfterSearchBy Gives (asks_of settings) (decide_row settings image) k l found old new r) → AfterJustified Gives settings image k l found old new r after
  after_justified k l (Ok found) old new r kept after = (
    decision_justified after.answers found k l after.asked_at after.finished.decided_at r kept after.finished.decision,
    decision_confined after.answers found k l after.asked_at after.finished.decided_at r kept after.finished.decision,
  )
  after_justified k l (Err e) old new r kept after = tt

  -- the search did not run out of memory, since its error is the result
  found_kept : (k l : Kept) (found : Result TrustedLayers PullRefusal) (old new : Wire) (r : Result VerifiedDocuments PullRefusal) → IsKept r → AfterSearchBy Gives (asks_of settings) (decide_row settings image) k l found old new r → IsKept found
  found_kept k l (Ok found) old new r kept after = tt
  found_kept k l (Err e) old new r kept after = rw after.0 at kept

  pub justified : (k l : Kept) (old new : Wire) (r : Result VerifiedDocuments PullRefusal) → IsKept r → (course : CourseBy Gives (asks_of settings) (collect_row settings image) (decide_row settings image) k l old new r) → JustifiedBy Gives settings image k l old new r course
  justified k l old new r kept course =
      let searched = found_kept course.kept l course.found course.searched_at new r kept course.after in
      record {
        search = search_justified k course.kept old course.searched_at course.found searched course.search;
        confined = search_confined k course.kept old course.searched_at course.found searched course.search;
        after = after_justified course.kept l course.found course.searched_at new r kept course.after;
      }

-- ---- by the settings

after_as : (Asks Same : Asking) (decide same : Answers → TrustedLayers → Whole VerifiedDocuments) (k l : Kept) (found : Result TrustedLayers PullRefusal) (old new : Wire) (r : Result VerifiedDocuments PullRefusal) → ((answers : Answers) (layers : TrustedLayers) → decide answers layers ≡ same answers layers) → ((answers : Answers) (layers : TrustedLayers) → Asks answers layers → Same answers layers)
    → AfterSearchBy NothingTold Asks decide k l found old new r → AfterSearchBy NothingTold Same same k l found old new r
after_as Asks Same decide same k l (Ok found) old new r is asks after = record {
  asked_at = after.asked_at;
  answers = after.answers;
  questions = after.questions;
  about = asks after.answers found after.about;
  finished = record {
    decided_at = after.finished.decided_at;
    decision = subst (λ (row : Whole VerifiedDocuments). Transfer row after.asked_at after.finished.decided_at k l r) (is after.answers found) after.finished.decision;
    given = after.finished.given;
  };
}
after_as Asks Same decide same k l (Err e) old new r is asks after = after

course_as : (Asks Same : Asking) (collect other : Whole TrustedLayers) (decide same : Answers → TrustedLayers → Whole VerifiedDocuments) (k l : Kept) (old new : Wire) (r : Result VerifiedDocuments PullRefusal) → collect ≡ other → ((answers : Answers) (layers : TrustedLayers) → decide answers layers ≡ same answers layers) → ((answers : Answers) (layers : TrustedLayers) → Asks answers layers → Same answers layers)
    → CourseBy NothingTold Asks collect decide k l old new r → CourseBy NothingTold Same other same k l old new r
course_as Asks Same collect other decide same k l old new r searches decides asks course = record {
  searched_at = course.searched_at;
  kept = course.kept;
  found = course.found;
  search = subst (λ (row : Whole TrustedLayers). Transfer row old course.searched_at k course.kept course.found) searches course.search;
  after = after_as Asks Same decide same course.kept l course.found course.searched_at new r decides asks course.after;
}

-- a course by these terms
decided_by : {V : Type 0} {H : V → Type 0} (own : CustomVerdict V H) (settings : LiveSettings) (terms : Terms V H) (logs : FinMap by_bytes (List ℕ)) (s : Settings) (k l : Kept) (old new : Wire) (r : Result VerifiedDocuments PullRefusal) → ByTerms settings terms logs s → IsKept r
    → CourseBy NothingTold (asks_for terms logs) (collect_for own terms logs s) (decide_for own terms logs s) k l old new r → DecidedFrom settings k l r old new
decided_by own settings terms logs s k l old new r by kept course =
    let here = course_as (asks_for terms logs) (asks_of settings) (collect_for own terms logs s) (collect_row settings (reference_in terms.image)) (decide_for own terms logs s) (decide_row settings (reference_in terms.image)) k l old new r
    (collect_is own settings terms logs s by) (λ answers found. decide_is own settings terms logs s answers found by) (λ answers found about. rw (by.terms_are.keys, by.logs_are) at about) course in
    record {
      image = reference_in terms.image;
      reads = by.terms_are.image;
      course = here;
      justified = justified NothingTold settings (reference_in terms.image) terms.image.direct k l old new r kept here;
    }

-- questions about what was collected, of which not every one was answered, by the settings
undecided_by : {V : Type 0} {H : V → Type 0} (own : CustomVerdict V H) (settings : LiveSettings) (terms : Terms V H) (logs : FinMap by_bytes (List ℕ)) (s : Settings) (k l : Kept) (e : HostError) (old new : Wire) → ByTerms settings terms logs s
    → AskingCut (collect_for own terms logs s) k l e old new → UndecidedFrom settings k l e old new
undecided_by own settings terms logs s k l e old new by cut =
    let search = subst (λ (row : Whole TrustedLayers). Transfer row old cut.searched_at k l (Ok cut.found)) (collect_is own settings terms logs s by) cut.search in
    record {
      image = reference_in terms.image;
      reads = by.terms_are.image;
      cut = record { searched_at = cut.searched_at; found = cut.found; search = search; asks = cut.asks };
      confined = search_confined NothingTold settings (reference_in terms.image) terms.image.direct k l old cut.searched_at (Ok cut.found) tt search;
    }

-- what was decided, by the settings
pub client_decides : {V : Type 0} {H : V → Type 0} (own : CustomVerdict V H) (settings : LiveSettings) (terms : Terms V H) (logs : FinMap by_bytes (List ℕ)) (s : Settings) (k l : Kept) (old new : Wire) (o : Result (Result VerifiedDocuments PullRefusal) Status) → ByTerms settings terms logs s
    → Decides (CourseBy NothingTold (asks_for terms logs) (collect_for own terms logs s) (decide_for own terms logs s) k l old new) (λ e. AskingCut (collect_for own terms logs s) k l e old new) o
    → Decides (λ r. DecidedFrom settings k l r old new) (λ e. UndecidedFrom settings k l e old new) o
client_decides own settings terms logs s k l old new (Ok (Ok d)) by h = decided_by own settings terms logs s k l old new (Ok d) by tt h
client_decides own settings terms logs s k l old new (Ok (Err e)) by h = λ kept. decided_by own settings terms logs s k l old new (Err e) by kept (h kept)
client_decides own settings terms logs s k l old new (Err x) by h =
    caused_as {C = λ e. AskingCut (collect_for own terms logs s) k l e old new} {D = λ e. UndecidedFrom settings k l e old new} x (λ e cut. undecided_by own settings terms logs s k l e old new by cut) h

-- the same by a new client
prepared_by : {V : Type 0} {H : V → Type 0} (settings : LiveSettings) (p : Prepared V H) → Prepares settings p → ByTerms settings p.terms p.client.rekor_pub_keys (client_state p.client).settings
prepared_by settings p (reads, auth, accepted, moment, keys, constraints, client, logs) = record {
  terms_are = record { image = reads; auth = auth; accepted = accepted; moment = moment; keys = keys; constraints = constraints };
  client = ap (λ (c : State). c.settings) client;
  logs_are = logs;
}

pub live_decides : {V : Type 0} {H : V → Type 0} (own : CustomVerdict V H) (settings : LiveSettings) (p : Prepared V H) (l : Kept) (old new : Wire) (o : Result (Result VerifiedDocuments PullRefusal) Status) → Prepares settings p
    → Decides (CourseBy NothingTold (asks_for p.terms p.client.rekor_pub_keys) (collect_for own p.terms p.client.rekor_pub_keys (client_state p.client).settings) (decide_for own p.terms p.client.rekor_pub_keys (client_state p.client).settings) (client_state p.client).kept l old new)
    (λ e. AskingCut (collect_for own p.terms p.client.rekor_pub_keys (client_state p.client).settings) (client_state p.client).kept l e old new) o
    → Decides (λ r. DecidedDocuments settings r old new) (λ e. Undecided settings e old new) o
live_decides own settings p l old new o prepares h =
    let made = ap (λ (c : State). c.kept) prepares.6 in
    decides_as {P = λ r. DecidedFrom settings (client_state p.client).kept l r old new} {Q = λ r. DecidedDocuments settings r old new}
    {C = λ e. UndecidedFrom settings (client_state p.client).kept l e old new} {D = λ e. Undecided settings e old new} o
    (λ r from. record { left = l; decided = subst (λ (k : Kept). DecidedFrom settings k l r old new) made from })
    (λ e from. record { left = l; undecided = subst (λ (k : Kept). UndecidedFrom settings k l e old new) made from })
    (client_decides own settings p.terms p.client.rekor_pub_keys (client_state p.client).settings (client_state p.client).kept l old new o (prepared_by settings p prepares) h)

-- ---- what is sent afterwards

after_given : (Gives : Giving) (Asks : Asking) (decide : Answers → TrustedLayers → Whole VerifiedDocuments) (k l : Kept) (found : Result TrustedLayers PullRefusal) (old at new : Wire) (r : Result VerifiedDocuments PullRefusal) → Gives r at new → AfterSearchBy NothingTold Asks decide k l found old at r → AfterSearchBy Gives Asks decide k l found old new r
after_given Gives Asks decide k l (Ok found) old at new r given after = record {
  asked_at = after.asked_at;
  answers = after.answers;
  questions = after.questions;
  about = after.about;
  finished = record {
    decided_at = after.finished.decided_at;
    decision = after.finished.decision;
    given = subst (λ (w : Wire). Gives r w new) (sym after.finished.given) given;
  };
}
after_given Gives Asks decide k l (Err e) old at new r given after = (after.0, after.1, subst (λ (w : Wire). Gives (Err e) w new) (sym after.2) (subst (λ (x : Result VerifiedDocuments PullRefusal). Gives x at new) after.0 given))

course_given : (Gives : Giving) (Asks : Asking) (collect : Whole TrustedLayers) (decide : Answers → TrustedLayers → Whole VerifiedDocuments) (k l : Kept) (old at new : Wire) (r : Result VerifiedDocuments PullRefusal) → Gives r at new → CourseBy NothingTold Asks collect decide k l old at r → CourseBy Gives Asks collect decide k l old new r
course_given Gives Asks collect decide k l old at new r given course = record {
  searched_at = course.searched_at;
  kept = course.kept;
  found = course.found;
  search = course.search;
  after = after_given Gives Asks decide course.kept l course.found course.searched_at at new r given course.after;
}

justified_given : (settings : LiveSettings) (image : Reference) (k l : Kept) (old at new : Wire) (r : Result VerifiedDocuments PullRefusal) (given : DocumentsTold r at new) (course : CourseBy NothingTold (asks_of settings) (collect_row settings image) (decide_row settings image) k l old at r) → JustifiedBy NothingTold settings image k l old at r course → JustifiedBy DocumentsTold settings image k l old new r (course_given DocumentsTold (asks_of settings) (collect_row settings image) (decide_row settings image) k l old at new r given course)
unfolding after_given course_given
justified_given settings image k l old at new r given course h = record { search = h.search; confined = h.confined; after = by_found course.kept course.found course.searched_at course.after h.after } where
  by_found : (kept : Kept) (found : Result TrustedLayers PullRefusal) (searched : Wire) (after : AfterSearchBy NothingTold (asks_of settings) (decide_row settings image) kept l found searched at r) → AfterJustified NothingTold settings image kept l found searched at r after → AfterJustified DocumentsTold settings image kept l found searched new r (after_given DocumentsTold (asks_of settings) (decide_row settings image) kept l found searched at new r given after)
  by_found kept (Ok found) searched after h = h
  by_found kept (Err e) searched after h = tt

pub sent : (settings : LiveSettings) (old at new : Wire) (r : Result VerifiedDocuments PullRefusal) → DocumentsTold r at new → DecidedDocuments settings r old at → LiveDocuments settings r old new
sent settings old at new r given h = record {
  image = h.decided.image;
  reads = h.decided.reads;
  left = h.left;
  course = course_given DocumentsTold (asks_of settings) (collect_row settings h.decided.image) (decide_row settings h.decided.image) (fresh true) h.left old at new r given h.decided.course;
  justified = justified_given settings h.decided.image (fresh true) h.left old at new r given h.decided.course h.decided.justified;
}

-- how a pull ends whose result was sent, or not all of it
pub delivered_ends : (settings : LiveSettings) (old at new : Wire) (r : Result VerifiedDocuments PullRefusal) (s : Status) → Decides (λ r. DecidedDocuments settings r old at) (λ e. Undecided settings e old at) (Ok r) → DeliversBy DocumentsTold DocumentsCut r s at new
    → Ends (λ r. LiveDocuments settings r old new) (λ e. LiveDocumentsCut settings e old new) s
delivered_ends settings old at new (Ok d) status.Pulled decided given = (d, sent settings old at new (Ok d) given decided)
delivered_ends settings old at new (Err e) status.Pulled decided given = absurd given
delivered_ends settings old at new (Ok d) status.Refused decided given = absurd given
delivered_ends settings old at new (Err e) status.Refused decided given = (e, given.0, sent settings old at new (Err e) given.1 (decided given.0))
delivered_ends settings old at new (Ok d) status.UnreadableSettings decided given = absurd given
delivered_ends settings old at new (Err e) status.UnreadableSettings decided given = absurd given
delivered_ends settings old at new (Ok d) status.HostBroken decided given = inr (record { result = Ok d; decided_at = at; decided = decided; cut = given.1 })
delivered_ends settings old at new (Err e) status.HostBroken decided given = inr (record { result = Err e; decided_at = at; decided = decided given.0; cut = given.1 })
delivered_ends settings old at new (Ok d) status.SinkFault decided given = inr (record { result = Ok d; decided_at = at; decided = decided; cut = given.1 })
delivered_ends settings old at new (Err e) status.SinkFault decided given = inr (record { result = Err e; decided_at = at; decided = decided given.0; cut = given.1 })
delivered_ends settings old at new (Ok d) status.WantOfMemory decided given = tt
delivered_ends settings old at new (Err e) status.WantOfMemory decided given = tt

-- and one that ended before
pub early_ends : (settings : LiveSettings) (old new : Wire) (s : Status) → StatusCause (λ e. Undecided settings e old new) s → Ends (λ r. LiveDocuments settings r old new) (λ e. LiveDocumentsCut settings e old new) s
early_ends settings old new status.Pulled h = absurd h
early_ends settings old new status.Refused h = absurd h
early_ends settings old new status.UnreadableSettings h = absurd h
early_ends settings old new status.HostBroken h = inl h
early_ends settings old new status.SinkFault h = inl h
early_ends settings old new status.WantOfMemory h = tt
