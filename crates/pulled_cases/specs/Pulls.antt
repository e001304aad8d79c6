-- The pulls of a case: one at each of its moments, by one client, over the responses of the case's registry.
use Rattle.std.specs.Prelude.{All, ◌≡◌, ◌⊎◌, ◌+◌, ◌++◌, length, ℕ, Bool, true, false, not, IsTrue, ◌&&◌, List, [], ◌∷◌, map, flat_map}
use Rattle.std.specs.Prelude.{Option, Some}
use Rattle.std.specs.Prelude.{None, Result, Ok, Err, codes}
use Rattle.oci_transport.specs.Link.{Answering, AnsweredBy}
use Rattle.oci_transport.specs.FaultsOnlyWhere.{faults_only_where}
use Rattle.oci_transport.specs.declared.message.Exchange.{Exchange}
use Rattle.oci_names.specs.declared.reference.Reference.{Reference}
use Rattle.oci_names.specs.Reference.{reference_of}
use Rattle.oci_protocol.specs.Runs.{RunsBy}
use Rattle.engine_terms.specs.Contexts.{within}
use Rattle.engine_terms.specs.declared.settings.Settings.{Settings}
use Rattle.registry_cache.specs.declared.answers.Answers.{Answers}
use Rattle.registry_calls.specs.Log.{LoggedCall, IsRun, IsBacked}
use Rattle.cosign_rows.specs.Causes.{PullCause}
use Rattle.cosign_rows.specs.Refusal.{is_memory}
use Rattle.cosign_rows.specs.Snapshots.{Snapshot, snapshot}
use Rattle.cosign_rows.specs.Sound.{Sound}
use Rattle.cosign_rows.specs.Verified.{Whole, verified}
use Rattle.cosign_chain.specs.declared.image.VerifiedImage.{VerifiedImage}
use Rattle.cosign_rows.specs.declared.refusal.PullRefusal.{PullRefusal}
use Rattle.recorded_case.specs.Policy.{meaning_of}
use Rattle.recorded_case.specs.Registry.{answering_by}
use Rattle.recorded_case.specs.declared.case.Case.{Case}
use Rattle.pull_report.specs.Report.{report}
use Rattle.cosign_client.specs.Clients.{settings_by, fresh}
use Rattle.pulled_cases.specs.declared.report.Report.{Report}

-- one pull: the client state and the fault count before and after it, its moment, its conversation and its result
pub record PullRecord : Type 0 where
  pub before : Snapshot
  pub after : Snapshot
  pub moment : ℕ
  pub conversation : List Exchange
  pub result : Result VerifiedImage PullRefusal

abbrev pub moment_of : PullRecord → ℕ
moment_of talk = talk.moment

abbrev pub conversation_of : PullRecord → List Exchange
conversation_of talk = talk.conversation

-- the exchanges of all pulls, in order
abbrev pub joined : List PullRecord → List Exchange
joined talks = flat_map conversation_of talks

abbrev pub report_of : PullRecord → List ℕ
report_of talk = report talk.moment talk.conversation talk.result

-- the reports of the pulls
abbrev pub reports : List PullRecord → List ℕ
reports talks = flat_map report_of talks

abbrev pub is_answered : Result VerifiedImage PullRefusal → Bool
is_answered (Ok image) = true
is_answered (Err refusal) = false

-- whether memory ran out
abbrev pub is_wanting : Result VerifiedImage PullRefusal → Bool
is_wanting (Ok image) = false
is_wanting (Err refusal) = is_memory refusal

-- memory ran out in none of the pulls
abbrev pub EachWhole : List PullRecord → Type 0
EachWhole [] = Unit {0}
EachWhole (talk ∷ talks) = (is_wanting talk.result ≡ false) × EachWhole talks

-- whether no pull was refused
abbrev pub all_answered : List PullRecord → Bool
all_answered [] = true
all_answered (talk ∷ talks) = is_answered talk.result && all_answered talks

-- Pulls in sequence, over a registry's responses from `place` on: each is a complete run of its row, and starts with
-- the client state and the fault count that the one before it left.
abbrev pub InTurn : (ℕ → Whole VerifiedImage) → Answering → ℕ → Snapshot → List PullRecord → Snapshot → Type 0
InTurn row t place start [] end = start ≡ end
InTurn row t place start (talk ∷ talks) end =
    (start ≡ talk.before)
    × RunsBy t place (row talk.moment) talk.before.kept talk.before.faults talk.conversation talk.after.faults
    talk.after.kept talk.result
    × InTurn row t (place + length talk.conversation) talk.after talks end

abbrev pub settings_of : Case → Settings
settings_of case = settings_by case.protocol case.limit case.platform

-- the pull of a case's image at a moment
abbrev pub row_of : Case → Reference → ℕ → Whole VerifiedImage
row_of case image moment =
    verified (meaning_of case) (within (settings_of case) moment) image case.auth case.accepted

-- the chain of a pulled image holds, and comes from this conversation; its digest may have been fresh in the cache.
-- A refusal has its cause in this conversation, from the client state and the fault count before it to those after it.
abbrev pub SoundResult : Case → Reference → PullRecord → Result VerifiedImage PullRefusal → Type 0
SoundResult case image talk (Ok v) =
    Sound talk.before.kept (within (settings_of case) talk.moment) (meaning_of case) image case.auth case.accepted
    talk.conversation v
SoundResult case image talk (Err refusal) =
    PullCause (meaning_of case) (within (settings_of case) talk.moment) image case.auth case.accepted
    talk.before talk.conversation talk.after refusal

abbrev pub EachSound : Case → Reference → List PullRecord → Type 0
EachSound case image [] = Unit {0}
EachSound case image (talk ∷ talks) = SoundResult case image talk talk.result × EachSound case image talks

-- the call was made in this pull: at its moment, with a part of its exchanges
pub record IsCallOf (talk : PullRecord) (call : LoggedCall) : Type 0 where
  pub moment_is : call.moment ≡ talk.moment
  pub before : List Exchange
  pub after : List Exchange
  pub split : talk.conversation ≡ before ++ (call.conversation ++ after)

-- in one of these pulls
abbrev pub IsCallOfOne : List PullRecord → LoggedCall → Type 0
IsCallOfOne [] call = ⊥
IsCallOfOne (talk ∷ talks) call = IsCallOf talk call ⊎ IsCallOfOne talks call

-- Calls that were made in these pulls, the latest first: the response of each is that of the same call, made in full
-- at a moment not later and less than 60 seconds before, and each response that is cached after the pulls is that of
-- one of them.
pub record BackedBy (s : Settings) (talks : List PullRecord) (cached : Option Answers) : Type 0 where
  pub calls : List LoggedCall
  pub made : All (IsCallOfOne talks) calls
  pub run : IsRun s calls
  pub backed : IsBacked s cached calls

-- The pulls of a case by a client that was new before the first. Each exchange has the recorded answer at its index, or
-- the answer of the shelf's table. The transport failed only if a fault is recorded: over a shelf nothing may fail,
-- and the fault counts of all exchanges and the last one are equal. A fault recorded inside a body occurs if that body
-- is read to its end. Memory ran out in none of the pulls. What is cached after them was returned during them.
pub record Pulled (case : Case) (talks : List PullRecord) : Type 0 where
  pub image : Reference
  pub reads : reference_of case.reference ≡ Ok image
  pub moments : map moment_of talks ≡ case.moments
  pub end : Snapshot
  pub in_turn : InTurn (row_of case image) (answering_by case.registry) 0 (snapshot (fresh case.caching) 0) talks end
  pub answered : AnsweredBy (answering_by case.registry) 0 (joined talks)
  pub calm_is : IsTrue (faults_only_where (answering_by case.registry).fails 0 (joined talks) end.faults)
  pub sound : EachSound case image talks
  pub backed : BackedBy (settings_of case) talks end.kept.1
  pub whole : EachWhole talks

-- the output of a case is the report of its pulls
pub record ReportsCase (case : Case) (made : Report) : Type 0 where
  pub talks : List PullRecord
  pub pulled : Pulled case talks
  pub written : made.bytes ≡ reports talks
  pub refused : made.refused ≡ not (all_answered talks)
