-- How the parts of the course fit together.
use Rattle.std.proofs.Common.{◌≡◌, ℕ, List, Result, Ok, Err, refl, sym, subst}
use Rattle.std.specs.FinMap.{FinMap}
use Rattle.json_values.specs.Places.{by_bytes}
use Rattle.engine_terms.specs.declared.settings.Settings.{Settings}
use Rattle.registry_calls.specs.Clients.{Kept}
use Rattle.cosign_layers.specs.Satisfying.{CustomVerdict}
use Rattle.cosign_chain.specs.declared.verified_documents.VerifiedDocuments.{VerifiedDocuments}
use Rattle.cosign_rows.specs.Verified.{Whole}
use Rattle.cosign_rows.specs.declared.found.TrustedLayers.{TrustedLayers}
use Rattle.cosign_rows.specs.declared.refusal.PullRefusal.{PullRefusal}
use Rattle.live_host.specs.Questions.{WereAsked}
use Rattle.live_host.specs.Wire.{Wire}
use Rattle.live_host.specs.declared.answers.Answers.{Answers}
use Rattle.live_host.specs.HostErrors.{AsksCause}
use Rattle.live_host.specs.declared.streams.HostError.{HostError}
use Rattle.live_host.specs.declared.streams.HostError.TheVariants as host
use Rattle.live_pull.specs.Pulls.{Transfer}
use Rattle.live_pull.specs.Status.{StatusCause, status_of}
use Rattle.live_pull.specs.Terms.{PulledBy}
use Rattle.live_pull.specs.declared.pulls.Terms.{Terms}
use Rattle.live_pull.specs.declared.status.Status.{Status}
use Rattle.live_pull.specs.Course.{AskedAndDecidedBy, AskingCut, CourseBy, FinishedBy, NothingTold}
use Rattle.live_pull.specs.Decided.{Decides}
use Rattle.live_pull.specs.Rows.{asks_for, collect_for, decide_for}
use Rattle.live_pull.proofs.EarlyEnds.{caused_as}

-- a consequence of each result, and of each cut, is a consequence of what was decided
pub decides_as : {A : Type 0} {P Q : Result A PullRefusal → Type 0} {C D : HostError → Type 0} (o : Result (Result A PullRefusal) Status) → ((r : Result A PullRefusal) → P r → Q r) → ((e : HostError) → C e → D e) → Decides P C o → Decides Q D o
decides_as (Ok (Ok a)) f cuts h = f (Ok a) h
decides_as (Ok (Err e)) f cuts h = λ kept. f (Err e) (h kept)
decides_as (Err s) f cuts h = caused_as s cuts h

-- the host's stream or the output failed, or memory ran out
pub host_undecided : {A : Type 0} (P : Result A PullRefusal → Type 0) (Cut : HostError → Type 0) (e : HostError) → Cut e → Decides P Cut (Err (status_of e))
host_undecided P Cut host.Broken cut = cut
host_undecided P Cut host.Unwritten cut = cut
host_undecided P Cut host.WantOfMemory cut = tt

-- questions of which not every one was answered
pub asked_in_part : (k : Kept) (old new : Wire) (e : HostError) → AsksCause e old new → StatusCause (λ x. (k ≡ k) × AsksCause x old new) (status_of e)
asked_in_part k old new host.Broken asks = (refl, asks)
asked_in_part k old new host.Unwritten asks = (refl, asks)
asked_in_part k old new host.WantOfMemory asks = tt

-- a decision
pub finished_decides : (decide : Whole VerifiedDocuments) (k l : Kept) (old at : Wire) (r : Result VerifiedDocuments PullRefusal) → PulledBy decide old at k l r → Decides (FinishedBy NothingTold decide k l old at) (λ e. ⊥) (Ok r)
finished_decides decide k l old at (Ok d) decision = record { decided_at = at; decision = decision; given = refl }
finished_decides decide k l old at (Err e) decision = λ kept. record { decided_at = at; decision = decision kept; given = refl }

module _ {V : Type 0} {H : V → Type 0} (own : CustomVerdict V H) (terms : Terms V H) where
  -- by these terms
  pub finished_for : (logs : FinMap by_bytes (List ℕ)) (s : Settings) (answers : Answers) (found : TrustedLayers) (k l : Kept) (old at : Wire) (r : Result VerifiedDocuments PullRefusal)
      → PulledBy (decide_for own terms logs s answers found) old at k l r → Decides (FinishedBy NothingTold (decide_for own terms logs s answers found) k l old at) (λ e. ⊥) (Ok r)
  finished_for logs s answers found k l old at r decision = finished_decides (decide_for own terms logs s answers found) k l old at r decision

  -- questions, and the decision under the answers
  pub asked_decides : (logs : FinMap by_bytes (List ℕ)) (s : Settings) (answers : Answers) (found : TrustedLayers) (k l : Kept) (old at new : Wire) (o : Result (Result VerifiedDocuments PullRefusal) Status)
      → WereAsked answers.list old at → asks_for terms logs answers found → Decides (FinishedBy NothingTold (decide_for own terms logs s answers found) k l at new) (λ e. ⊥) o
      → Decides (AskedAndDecidedBy NothingTold (asks_for terms logs) (decide_for own terms logs s) k l found old new) (λ e. (l ≡ k) × AsksCause e old new) o
  asked_decides logs s answers found k l old at new o questions about decides =
      decides_as {P = FinishedBy NothingTold (decide_for own terms logs s answers found) k l at new} {Q = AskedAndDecidedBy NothingTold (asks_for terms logs) (decide_for own terms logs s) k l found old new} {C = λ e. ⊥} {D = λ e. (l ≡ k) × AsksCause e old new} o
      (λ r h. record { asked_at = at; answers = answers; questions = questions; about = about; finished = h }) (λ e h. absurd h) decides

  -- a search that found something, and what follows it, by a client that knows the same logs and has the same settings
  pub course_found : (logs same_logs : FinMap by_bytes (List ℕ)) (s same : Settings) (k kept l : Kept) (old at new : Wire) (found : TrustedLayers) (o : Result (Result VerifiedDocuments PullRefusal) Status)
      → PulledBy (collect_for own terms logs s) old at k kept (Ok found) → same_logs ≡ logs → same ≡ s
      → Decides (AskedAndDecidedBy NothingTold (asks_for terms same_logs) (decide_for own terms same_logs same) kept l found at new) (λ e. (l ≡ kept) × AsksCause e at new) o
      → Decides (CourseBy NothingTold (asks_for terms logs) (collect_for own terms logs s) (decide_for own terms logs s) k l old new) (λ e. AskingCut (collect_for own terms logs s) k l e old new) o
  course_found logs same_logs s same k kept l old at new found o search is_logs is_settings decides =
      decides_as {P = AskedAndDecidedBy NothingTold (asks_for terms same_logs) (decide_for own terms same_logs same) kept l found at new} {Q = CourseBy NothingTold (asks_for terms logs) (collect_for own terms logs s) (decide_for own terms logs s) k l old new}
      {C = λ e. (l ≡ kept) × AsksCause e at new} {D = λ e. AskingCut (collect_for own terms logs s) k l e old new} o (λ r h. record {
        searched_at = at;
        kept = kept;
        found = Ok found;
        search = search;
        after = subst (λ (logs : FinMap by_bytes (List ℕ)). AskedAndDecidedBy NothingTold (asks_for terms logs) (decide_for own terms logs s) kept l found at new r) is_logs
            (subst (λ (x : Settings). AskedAndDecidedBy NothingTold (asks_for terms same_logs) (decide_for own terms same_logs x) kept l found at new r) is_settings h);
      }) (λ e h. record {
        searched_at = at;
        found = found;
        search = subst (λ (x : Kept). Transfer (collect_for own terms logs s) old at k x (Ok found)) (sym h.0) search;
        asks = h.1;
      }) decides

  -- a search that was refused
  pub course_refused : (logs : FinMap by_bytes (List ℕ)) (s : Settings) (k kept : Kept) (old at : Wire) (x : PullRefusal)
      → PulledBy (collect_for own terms logs s) old at k kept (Err x)
      → Decides (CourseBy NothingTold (asks_for terms logs) (collect_for own terms logs s) (decide_for own terms logs s) k kept old at) (λ e. AskingCut (collect_for own terms logs s) k kept e old at) (Ok (Err x))
  course_refused logs s k kept old at x search = λ whole. record { searched_at = at; kept = kept; found = Err x; search = search whole; after = (refl, refl, refl) }
