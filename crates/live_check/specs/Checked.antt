-- An image that is checked with a host, without a request.
use Rattle.std.specs.Prelude.{◌≡◌, ◌⊎◌, ℕ, Bool, true, false, List, [], ◌∷◌, Option, Some, None, is_none}
use Rattle.std.specs.Prelude.{Result, Ok, Err}
use Rattle.oci_manifests.specs.declared.descriptor.OciDescriptor.{OciDescriptor}
use Rattle.oci_manifests.specs.declared.promise.ResolverPromise.{ResolverPromise}
use Rattle.cosign_layers.specs.Satisfying.{PolicyContext}
use Rattle.cosign_chain.specs.declared.verified_documents.VerifiedDocuments.{VerifiedDocuments}
use Rattle.call_laws.specs.Blobs.{descriptors_of, range_of}
use Rattle.pull_lock.specs.Unlocked.{GivesDocuments}
use Rattle.pull_lock.specs.declared.lock.LockEntry.{LockEntry}
use Rattle.live_host.specs.HostErrors.{AsksCause, TellCause}
use Rattle.live_host.specs.Questions.{WereAsked}
use Rattle.live_host.specs.Wire.{Wire, SendsFrame}
use Rattle.live_host.specs.declared.answers.Answers.{Answers}
use Rattle.live_host.specs.declared.streams.HostError.{HostError}
use Rattle.live_pull.specs.Pulls.{meaning_of}
use Rattle.live_pull.specs.declared.status.Status.{Status}
use Rattle.live_pull.specs.declared.status.Status.TheVariants as status
use Rattle.live_check.specs.Asked.{EntriesAsked}
use Rattle.live_check.specs.Blobs.{Went, WentCut}
use Rattle.live_check.specs.Heads.{documents_head, verdict_head}
use Rattle.live_check.specs.declared.settings.CheckSettings.{CheckSettings}

-- ---- the verdict

-- that the documents do not hold was sent
abbrev pub NoneTold : Bool → Wire → Wire → Type 0
NoneTold held old new = (held ≡ false) × SendsFrame documents_head [] old new

-- the blobs were asked for and checked, in order, and the verdict on them was sent
pub record BlobsTold (xs : List OciDescriptor) (held : Bool) (old new : Wire) : Type 0 where
  pub fell : Option (List ℕ)
  pub checked_at : Wire
  pub went : Went xs fell old checked_at
  pub is : held ≡ is_none fell
  pub told : SendsFrame (verdict_head fell) [] checked_at new

-- the verdict, by the documents that hold, if they do
abbrev pub VerdictOn : ℕ → ℕ → Bool → Option VerifiedDocuments → Wire → Wire → Type 0
VerdictOn first end held None old new = NoneTold held old new
VerdictOn first end held (Some d) old new = BlobsTold (range_of first end (descriptors_of d.manifest)) held old new

-- the blobs were asked for and checked, and the verdict on them was not sent
pub record BlobsUntold (xs : List OciDescriptor) (e : HostError) (old new : Wire) : Type 0 where
  pub fell : Option (List ℕ)
  pub checked_at : Wire
  pub went : Went xs fell old checked_at
  pub untold : TellCause (verdict_head fell, []) e checked_at new

-- why the verdict on blobs was not sent: a blob was cut, or its frame was
abbrev pub BlobsCut : List OciDescriptor → HostError → Wire → Wire → Type 0
BlobsCut xs e old new = WentCut xs e old new ⊎ BlobsUntold xs e old new

-- why there is no verdict, by the documents that hold, if they do
abbrev pub VerdictCut : ℕ → ℕ → HostError → Option VerifiedDocuments → Wire → Wire → Type 0
VerdictCut first end e None old new = TellCause (documents_head, []) e old new
VerdictCut first end e (Some d) old new = BlobsCut (range_of first end (descriptors_of d.manifest)) e old new

-- ---- the documents

-- what follows the decision on documents, by those that hold, if they do
abbrev pub Giving : Type 1
Giving = Option VerifiedDocuments → Wire → Wire → Type 0

-- the documents of the entry hold under the policy, or they do not, and this follows
pub record DecidesBy {V : Type 0} {H : V → Type 0} (Gives : Giving) (policy_context : PolicyContext V H)
    (promise : Option ResolverPromise) (entry : LockEntry) (old new : Wire) : Type 0 where
  pub found : Option VerifiedDocuments
  pub gives : GivesDocuments policy_context promise entry found
  pub verdict : Gives found old new

-- The host was asked about the signature layer of the entry, and this follows under its answers. These are all frames:
-- no request is among them.
pub record AsksAndDecidesBy {V : Type 0} {H : V → Type 0} (Gives : Giving) (under : Answers → PolicyContext V H)
    (promise : Option ResolverPromise) (entry : LockEntry) (old new : Wire) : Type 0 where
  pub asked_at : Wire
  pub answers : Answers
  pub questions : WereAsked answers.list old asked_at
  pub about : EntriesAsked answers.list (under answers).policy.keys (under answers).trust.log_keys (entry ∷ [])
  pub decided : DecidesBy Gives (under answers) promise entry asked_at new

-- the host was asked, and the verdict under its answers was sent
abbrev pub AsksAndDecides : {V : Type 0} {H : V → Type 0} → (Answers → PolicyContext V H) → Option ResolverPromise
    → LockEntry → ℕ → ℕ → Bool → Wire → Wire → Type 0
AsksAndDecides under promise entry first end held old new =
    AsksAndDecidesBy (VerdictOn first end held) under promise entry old new

-- why there is no verdict: not every question was answered, or what follows the decision was cut
abbrev pub AsksAndDecidesCut : {V : Type 0} {H : V → Type 0} → (Answers → PolicyContext V H) → Option ResolverPromise
    → LockEntry → ℕ → ℕ → HostError → Wire → Wire → Type 0
AsksAndDecidesCut under promise entry first end e old new =
    AsksCause e old new ⊎ AsksAndDecidesBy (VerdictCut first end e) under promise entry old new

-- ---- by the settings

-- the verdict under the policy of the settings was sent
abbrev pub Checked : CheckSettings → Bool → Wire → Wire → Type 0
Checked settings held old new = AsksAndDecides (meaning_of settings.settings) settings.settings.platform settings.entry
    settings.first settings.end held old new

-- why it was not
abbrev pub CheckedCut : CheckSettings → HostError → Wire → Wire → Type 0
CheckedCut settings e old new = AsksAndDecidesCut (meaning_of settings.settings) settings.settings.platform
    settings.entry settings.first settings.end e old new

-- the status by whether all holds
abbrev pub status_by : Result Bool Status → Status
status_by (Ok true) = status.Pulled
status_by (Ok false) = status.Refused
status_by (Err s) = s
