-- How a check of a lock ends.
use Rattle.std.proofs.Common.{◌≡◌, Bool, true, false, List, [], Option, Ok, Err, Result, inl, inr, refl, subst}
use Rattle.std.specs.Prelude.{IfOk, IfErr}
use Rattle.serde_json.specs.Data.{Data}
use Rattle.oci_manifests.specs.declared.promise.ResolverPromise.{ResolverPromise}
use Rattle.cosign_layers.specs.Satisfying.{CustomVerdict, PolicyContext, policy_context}
use Rattle.cosign_layers.specs.declared.constraint.Constraint.{Constraint}
use Rattle.recorded_case.specs.Policy.{constraints_by}
use Rattle.pull_lock.specs.declared.lock.Lock.{Lock}
use Rattle.pull_lock.specs.declared.checking.LockVerdict.{LockVerdict}
use Rattle.pull_lock.specs.declared.error.LockError.{LockError}
use Rattle.pull_lock.specs.declared.error.LockError.TheVariants as error
use Rattle.pull_lock.specs.Files.{ReadsLock}
use Rattle.pull_lock.specs.Locked.{Judges, Locked}
use Rattle.live_host.specs.HostErrors.{AsksCause, TellCause}
use Rattle.live_host.specs.Questions.{WereAsked}
use Rattle.live_host.specs.Wire.{Wire}
use Rattle.live_host.specs.declared.answers.Answers.{Answers}
use Rattle.live_host.specs.declared.streams.HostError.{HostError}
use Rattle.live_host.specs.declared.streams.HostError.TheVariants as host
use Rattle.live_pull.specs.Pulls.{meaning_of, trust_of}
use Rattle.live_pull.specs.Status.{StatusCause, status_of}
use Rattle.live_pull.specs.declared.settings.LiveSettings.{LiveSettings}
use Rattle.live_pull.specs.declared.status.Status.{Status}
use Rattle.locked_cases.proofs.Policies.{judged_by}
use Rattle.live_check.specs.Asked.{EntriesAsked}
use Rattle.live_check.specs.Ends.{EndsChecked}
use Rattle.live_check.specs.LockChecked.{AsksAndJudgesBy, AsksAndTells, AsksAndTellsCut, Giving, IsCut, IsTold, Judged, JudgedCut, JudgesBy, LockChecked, LockCheckedCut, Unread, UnreadCut, VerdictCut, VerdictOn, status_by}
use Rattle.live_check.specs.LockHeads.{cause_name, unread_head, verdict_head}
use Rattle.live_check.specs.declared.lock_settings.LockSettings.{LockSettings}
use Rattle.live_check.proofs.Ends.{ends_so, host_causes, untold_as}

pub lock_ends : (Checks : Bool → Type 0) (Cut : HostError → Type 0) (r : Result Bool HostError) → IfOk r Checks → IfErr r Cut → EndsChecked Checks Cut (status_by r)
lock_ends Checks Cut (Ok true) h cause = h
lock_ends Checks Cut (Ok false) h cause = h
lock_ends Checks Cut (Err host.Broken) h cause = cause
lock_ends Checks Cut (Err host.Unwritten) h cause = cause
lock_ends Checks Cut (Err host.WantOfMemory) h cause = tt

-- ---- the verdict

-- it was not sent
pub verdict_untold : {V : Type 0} {H : V → Type 0} (policy : PolicyContext V H) (promise : Option ResolverPromise) (lock : Lock) (verdict : LockVerdict) (head : Data) (e : HostError) (old new : Wire)
    → Judges (Locked policy promise) lock.entries verdict → head ≡ verdict_head verdict → TellCause (head, []) e old new → StatusCause (λ cut. JudgesBy (IsCut cut) policy promise lock old new) (status_of e)
verdict_untold policy promise lock verdict head e old new judges is cause =
    host_causes (λ cut. JudgesBy (IsCut cut) policy promise lock old new) e (record { verdict = verdict; judges = judges; given = untold_as head (verdict_head verdict) e old new is cause })

module _ {V : Type 0} {H : V → Type 0} (under : Answers → PolicyContext V H) (promise : Option ResolverPromise) (lock : Lock) where
  -- the questions, and the verdict
  pub asks_and_judges : (Gives : Giving) (answers : Answers) (old mid new : Wire) → WereAsked answers.list old mid → EntriesAsked answers.list (under answers).policy.keys (under answers).trust.log_keys lock.entries
      → JudgesBy Gives (under answers) promise lock mid new → AsksAndJudgesBy Gives under promise lock old new
  asks_and_judges Gives answers old mid new questions about judged = record { asked_at = mid; answers = answers; questions = questions; about = about; judged = judged }

  -- all questions were answered, and the verdict was not sent
  pub judged_and_cut : (answers : Answers) (e : HostError) (old mid new : Wire) → WereAsked answers.list old mid → EntriesAsked answers.list (under answers).policy.keys (under answers).trust.log_keys lock.entries
      → StatusCause (λ cut. JudgesBy (IsCut cut) (under answers) promise lock mid new) (status_of e) → AsksAndTellsCut under promise lock e old new
  judged_and_cut answers host.Broken old mid new questions about cut = inr (asks_and_judges (IsCut host.Broken) answers old mid new questions about cut)
  judged_and_cut answers host.Unwritten old mid new questions about cut = inr (asks_and_judges (IsCut host.Unwritten) answers old mid new questions about cut)
  judged_and_cut answers host.WantOfMemory old mid new questions about cut = inl tt

-- ---- under the policy of the settings, whatever a caller's boxes mean

module _ {V : Type 0} {H : V → Type 0} (own : CustomVerdict V H) (settings : LiveSettings) (constraints : List (Constraint V H)) (lock : Lock) (is : constraints ≡ constraints_by settings.constraints) where
  abbrev under_own : Answers → PolicyContext V H
  under_own answers = policy_context (record { keys = settings.keys; constraints = constraints }) own (trust_of settings answers)

  judged_so : (Gives : Giving) (old new : Wire) → AsksAndJudgesBy Gives under_own settings.platform lock old new → AsksAndJudgesBy Gives (meaning_of settings) settings.platform lock old new
  judged_so Gives old new h = record {
    asked_at = h.asked_at;
    answers = h.answers;
    questions = h.questions;
    about = h.about;
    judged = record {
      verdict = h.judged.verdict;
      judges = judged_by own settings.keys settings.constraints (trust_of settings h.answers) settings.platform constraints lock.entries h.judged.verdict is h.judged.judges;
      given = h.judged.given;
    };
  }

  cut_so : (e : HostError) (old new : Wire) → AsksAndTellsCut under_own settings.platform lock e old new → JudgedCut settings lock e old new
  cut_so e old new (inl asks) = inl asks
  cut_so e old new (inr cut) = inr (judged_so (IsCut e) old new cut)

pub judged_ends : {V : Type 0} {H : V → Type 0} (own : CustomVerdict V H) (settings : LiveSettings) (constraints : List (Constraint V H)) (lock : Lock) (r : Result Bool HostError) (old new : Wire) → constraints ≡ constraints_by settings.constraints
    → IfOk r (λ held. AsksAndTells (λ (answers : Answers). policy_context (record { keys = settings.keys; constraints = constraints }) own (trust_of settings answers)) settings.platform lock held old new)
    → IfErr r (λ e. AsksAndTellsCut (λ (answers : Answers). policy_context (record { keys = settings.keys; constraints = constraints }) own (trust_of settings answers)) settings.platform lock e old new)
    → EndsChecked (λ held. Judged settings lock held old new) (λ e. JudgedCut settings lock e old new) (status_by r)
judged_ends {V} {H} own settings constraints lock r old new is told cause =
    let under : Answers → PolicyContext V H = λ answers. policy_context (record { keys = settings.keys; constraints = constraints }) own (trust_of settings answers) in
    ends_so (λ held. AsksAndTells under settings.platform lock held old new) (λ held. Judged settings lock held old new)
    (λ e. AsksAndTellsCut under settings.platform lock e old new) (λ e. JudgedCut settings lock e old new) (status_by r)
    (λ held h. judged_so own settings constraints lock is (IsTold held) old new h) (λ e h. cut_so own settings constraints lock is e old new h)
    (lock_ends (λ held. AsksAndTells under settings.platform lock held old new) (λ e. AsksAndTellsCut under settings.platform lock e old new) r told cause)

-- ---- the text

-- that it is no lock file was not sent
pub unread_untold : (x : LockError) (head : Data) (e : HostError) (old new : Wire) → head ≡ unread_head (cause_name x) → TellCause (head, []) e old new → UnreadCut x e old new
unread_untold x head e old new is cause = untold_as head (unread_head (cause_name x)) e old new is cause

-- by what the text is read as
pub checked : (settings : LockSettings) (r : Result Lock LockError) (s : Status) (old new : Wire) → ReadsLock settings.lock r
    → EndsChecked (λ held. VerdictOn settings.settings held r old new) (λ e. VerdictCut settings.settings e r old new) s
    → EndsChecked (λ held. LockChecked settings held old new) (λ e. LockCheckedCut settings e old new) s
checked settings r s old new reads h =
    ends_so (λ held. VerdictOn settings.settings held r old new) (λ held. LockChecked settings held old new) (λ e. VerdictCut settings.settings e r old new) (λ e. LockCheckedCut settings e old new) s
    (λ held v. record { read = r; reads = reads; verdict = v }) (λ e v. record { read = r; reads = reads; verdict = v }) h

pub checked_unread : (settings : LockSettings) (x : LockError) (s : Status) (old new : Wire) → ReadsLock settings.lock (Err x) → (x ≡ error.WantOfMemory → ⊥)
    → EndsChecked (λ held. Unread x held old new) (λ e. UnreadCut x e old new) s → EndsChecked (λ held. LockChecked settings held old new) (λ e. LockCheckedCut settings e old new) s
checked_unread settings x s old new reads other h =
    checked settings (Err x) s old new reads (ends_so (λ held. Unread x held old new) (λ held. VerdictOn settings.settings held (Err x) old new) (λ e. UnreadCut x e old new) (λ e. VerdictCut settings.settings e (Err x) old new) s
    (λ held v. (other, v)) (λ e v. (other, v)) h)
