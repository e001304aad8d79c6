-- A lock that is checked with a host.
use Rattle.std.specs.Prelude.{◌≡◌, ◌⊎◌, Bool, true, false, [], Option, Result, Ok, Err}
use Rattle.oci_manifests.specs.declared.promise.ResolverPromise.{ResolverPromise}
use Rattle.cosign_layers.specs.Satisfying.{PolicyContext}
use Rattle.pull_lock.specs.Files.{ReadsLock}
use Rattle.pull_lock.specs.Locked.{Judges, Locked}
use Rattle.pull_lock.specs.declared.lock.Lock.{Lock}
use Rattle.pull_lock.specs.declared.checking.LockVerdict.{LockVerdict}
use Rattle.pull_lock.specs.declared.error.LockError.{LockError}
use Rattle.pull_lock.specs.declared.error.LockError.TheVariants as error
use Rattle.live_host.specs.HostErrors.{AsksCause, TellCause}
use Rattle.live_host.specs.Questions.{WereAsked}
use Rattle.live_host.specs.Wire.{Wire, SendsFrame}
use Rattle.live_host.specs.declared.answers.Answers.{Answers}
use Rattle.live_host.specs.declared.streams.HostError.{HostError}
use Rattle.live_pull.specs.Pulls.{meaning_of}
use Rattle.live_pull.specs.Status.{status_of}
use Rattle.live_pull.specs.declared.settings.LiveSettings.{LiveSettings}
use Rattle.live_pull.specs.declared.status.Status.{Status}
use Rattle.live_pull.specs.declared.status.Status.TheVariants as status
use Rattle.live_check.specs.Asked.{EntriesAsked}
use Rattle.live_check.specs.LockHeads.{cause_name, is_held, unread_head, verdict_head}
use Rattle.live_check.specs.declared.lock_settings.LockSettings.{LockSettings}

-- ---- the verdict

-- what follows a verdict
abbrev pub Giving : Type 1
Giving = LockVerdict → Wire → Wire → Type 0

-- it was sent
abbrev pub IsTold : Bool → Giving
IsTold held verdict old new = (held ≡ is_held verdict) × SendsFrame (verdict_head verdict) [] old new

-- why it was not
abbrev pub IsCut : HostError → Giving
IsCut e verdict old new = TellCause (verdict_head verdict, []) e old new

-- the verdict on a lock, and this follows
pub record JudgesBy {V : Type 0} {H : V → Type 0} (Gives : Giving) (policy_context : PolicyContext V H)
    (promise : Option ResolverPromise) (lock : Lock) (old new : Wire) : Type 0 where
  pub verdict : LockVerdict
  pub judges : Judges (Locked policy_context promise) lock.entries verdict
  pub given : Gives verdict old new

-- The host was asked about the signature layers of the entries, and this follows the verdict under its answers. These
-- are all frames: no request is among them.
pub record AsksAndJudgesBy {V : Type 0} {H : V → Type 0} (Gives : Giving) (under : Answers → PolicyContext V H)
    (promise : Option ResolverPromise) (lock : Lock) (old new : Wire) : Type 0 where
  pub asked_at : Wire
  pub answers : Answers
  pub questions : WereAsked answers.list old asked_at
  pub about : EntriesAsked answers.list (under answers).policy.keys (under answers).trust.log_keys lock.entries
  pub judged : JudgesBy Gives (under answers) promise lock asked_at new

-- the host was asked, and the verdict under its answers was sent
abbrev pub AsksAndTells : {V : Type 0} {H : V → Type 0} → (Answers → PolicyContext V H) → Option ResolverPromise → Lock
    → Bool → Wire → Wire → Type 0
AsksAndTells under promise lock held old new = AsksAndJudgesBy (IsTold held) under promise lock old new

-- why there is no verdict: not every question was answered, or not all of the verdict was sent
abbrev pub AsksAndTellsCut : {V : Type 0} {H : V → Type 0} → (Answers → PolicyContext V H) → Option ResolverPromise
    → Lock → HostError → Wire → Wire → Type 0
AsksAndTellsCut under promise lock e old new =
    AsksCause e old new ⊎ AsksAndJudgesBy (IsCut e) under promise lock old new

-- the verdict under the policy of the settings was sent
abbrev pub Judged : LiveSettings → Lock → Bool → Wire → Wire → Type 0
Judged settings lock held old new = AsksAndTells (meaning_of settings) settings.platform lock held old new

-- why it was not
abbrev pub JudgedCut : LiveSettings → Lock → HostError → Wire → Wire → Type 0
JudgedCut settings lock e old new = AsksAndTellsCut (meaning_of settings) settings.platform lock e old new

-- ---- a text that is no lock file

-- that it is none was sent
abbrev pub Unread : LockError → Bool → Wire → Wire → Type 0
Unread e held old new = (held ≡ false) × SendsFrame (unread_head (cause_name e)) [] old new

-- why it was not
abbrev pub UnreadCut : LockError → HostError → Wire → Wire → Type 0
UnreadCut e cut old new = TellCause (unread_head (cause_name e), []) cut old new

-- ---- by what the text is read as

-- the verdict on a lock, or that the text is none, was sent
abbrev pub VerdictOn : LiveSettings → Bool → Result Lock LockError → Wire → Wire → Type 0
VerdictOn settings held (Ok lock) old new = Judged settings lock held old new
VerdictOn settings held (Err e) old new = ¬ (e ≡ error.WantOfMemory) × Unread e held old new

-- why it was not
abbrev pub VerdictCut : LiveSettings → HostError → Result Lock LockError → Wire → Wire → Type 0
VerdictCut settings cut (Ok lock) old new = JudgedCut settings lock cut old new
VerdictCut settings cut (Err e) old new = ¬ (e ≡ error.WantOfMemory) × UnreadCut e cut old new

-- the text was read, and this follows
pub record LockCheckedBy (Gives : Result Lock LockError → Wire → Wire → Type 0) (settings : LockSettings)
    (old new : Wire) : Type 0 where
  pub read : Result Lock LockError
  pub reads : ReadsLock settings.lock read
  pub verdict : Gives read old new

-- the text was read, and the verdict on it was sent
abbrev pub LockChecked : LockSettings → Bool → Wire → Wire → Type 0
LockChecked settings held old new = LockCheckedBy (VerdictOn settings.settings held) settings old new

-- the text was read, and why no verdict on it was sent
abbrev pub LockCheckedCut : LockSettings → HostError → Wire → Wire → Type 0
LockCheckedCut settings e old new = LockCheckedBy (VerdictCut settings.settings e) settings old new

-- the status by whether the lock holds
abbrev pub status_by : Result Bool HostError → Status
status_by (Ok true) = status.Pulled
status_by (Ok false) = status.Refused
status_by (Err e) = status_of e
