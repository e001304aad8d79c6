-- The parts of a live pull.
use Rattle.std.specs.Prelude.{◌≡◌, ◌⊎◌, ℕ, Bool, true, false, List, Option, Some, None, Result, Ok, Err}
use Rattle.std.specs.FinMap.{FinMap}
use Rattle.serde_json.specs.Data.{Data}
use Rattle.json_values.specs.Places.{by_bytes}
use Rattle.oci_names.specs.Reference.{reference_of}
use Rattle.engine_terms.specs.Contexts.{within}
use Rattle.engine_terms.specs.declared.settings.Settings.{Settings}
use Rattle.registry_calls.specs.Clients.{Kept, Row}
use Rattle.registry_cache.specs.Auths.{registry_auth}
use Rattle.registry_calls.specs.Direct.{reference_in}
use Rattle.cosign_parts.specs.declared.layer.SignatureLayer.{SignatureLayer}
use Rattle.cosign_chain.specs.declared.image.VerifiedImage.{VerifiedImage}
use Rattle.cosign_rows.specs.Refusal.{is_memory}
use Rattle.cosign_rows.specs.Search.{searched}
use Rattle.cosign_client.specs.State.{client_state}
use Rattle.cosign_rows.specs.Verified.{Whole}
use Rattle.cosign_rows.specs.declared.found.TrustedLayers.{TrustedLayers}
use Rattle.cosign_rows.specs.declared.refusal.PullRefusal.{PullRefusal}
use Rattle.live_host.specs.Everyone.{everyone}
use Rattle.live_host.specs.HostErrors.{AsksCause}
use Rattle.live_host.specs.Questions.{WereAsked}
use Rattle.live_host.specs.Wire.{Wire}
use Rattle.live_host.specs.declared.answers.Answers.{Answers}
use Rattle.live_host.specs.declared.streams.HostError.{HostError}
use Rattle.live_host.specs.declared.streams.HostError.TheVariants as host
use Rattle.recorded_case.specs.Policy.{constraints_by}
use Rattle.live_pull.specs.Live.{BeginCut, NoFirst}
use Rattle.cosign_client.specs.Clients.{fresh}
use Rattle.live_pull.specs.Pulls.{Collects, Transfer, client_settings}
use Rattle.live_pull.specs.Refusals.{OutcomeCut, OutcomeTold}
use Rattle.live_pull.specs.Settings.{settings_of}
use Rattle.live_pull.specs.declared.live.Prepared.{Prepared}
use Rattle.live_pull.specs.declared.pulls.Terms.{Terms}
use Rattle.live_pull.specs.declared.settings.LiveSettings.{LiveSettings}
use Rattle.live_pull.specs.declared.status.Status.{Status}
use Rattle.live_pull.specs.declared.status.Status.TheVariants as status

-- a client with these settings, and its arguments
abbrev pub Prepares : {V : Type 0} {H : V → Type 0} → LiveSettings → Prepared V H → Type 0
Prepares settings p =
    (reference_of settings.reference ≡ Ok (reference_in p.terms.image))
    × (registry_auth p.terms.auth ≡ settings.auth)
    × (p.terms.accepted ≡ settings.accepted)
    × (p.terms.moment ≡ settings.moment)
    × (p.terms.policy.keys ≡ settings.keys)
    × (p.terms.policy.constraints ≡ constraints_by settings.constraints)
    × (client_state p.client ≡ record { settings = client_settings settings; kept = fresh true })
    × (p.client.rekor_pub_keys ≡ settings.log_keys)

-- what a frame parses as
abbrev pub ReadsFirst : {X : Type 0} → (Data → Option X) → Result X Status → Data → Type 0
ReadsFirst reads (Ok x) d = reads d ≡ Some x
ReadsFirst reads (Err status.UnreadableSettings) d = reads d ≡ None
ReadsFirst reads (Err status.WantOfMemory) d = Unit {0}
ReadsFirst reads (Err other) d = ⊥

-- the same of settings
abbrev pub ReadsSettings : Result LiveSettings Status → Data → Type 0
ReadsSettings = ReadsFirst settings_of

-- why no first frame was read
abbrev pub FirstCause : {X : Type 0} → (Data → Option X) → Status → Wire → Wire → Type 0
FirstCause reads status.Pulled old new = ⊥
FirstCause reads status.Refused old new = ⊥
FirstCause reads status.UnreadableSettings old new = NoFirst reads old new
FirstCause reads status.HostBroken old new = BeginCut host.Broken old new
FirstCause reads status.SinkFault old new = BeginCut host.Unwritten old new
FirstCause reads status.WantOfMemory old new = Unit {0}

-- why no settings were read
abbrev pub BeginCause : Status → Wire → Wire → Type 0
BeginCause = FirstCause settings_of

-- unless memory ran out
abbrev pub IsKept : {A : Type 0} → Result A PullRefusal → Type 0
IsKept (Ok a) = Unit {0}
IsKept (Err e) = is_memory e ≡ false

-- how the result of a pull was sent, in frames for which `Gives` holds, or `Cuts` if something broke the streams
abbrev pub DeliversBy : {A : Type 0} → (Result A PullRefusal → Wire → Wire → Type 0)
    → (Result A PullRefusal → HostError → Wire → Wire → Type 0) → Result A PullRefusal → Status → Wire → Wire → Type 0
DeliversBy Gives Cuts (Ok v) status.Pulled old new = Gives (Ok v) old new
DeliversBy Gives Cuts (Err e) status.Pulled old new = ⊥
DeliversBy Gives Cuts (Ok v) status.Refused old new = ⊥
DeliversBy Gives Cuts (Err e) status.Refused old new = (is_memory e ≡ false) × Gives (Err e) old new
DeliversBy Gives Cuts r status.UnreadableSettings old new = ⊥
DeliversBy Gives Cuts r status.HostBroken old new = IsKept r × Cuts r host.Broken old new
DeliversBy Gives Cuts r status.SinkFault old new = IsKept r × Cuts r host.Unwritten old new
DeliversBy Gives Cuts r status.WantOfMemory old new = Unit {0}

-- the same of an image
abbrev pub Delivers : Bool → Result VerifiedImage PullRefusal → Status → Wire → Wire → Type 0
Delivers blobs = DeliversBy (OutcomeTold blobs) (OutcomeCut blobs)

-- a pull that did not run out of memory, and what was sent for it
abbrev pub Finished : Whole VerifiedImage → (Result VerifiedImage PullRefusal → Wire → Wire → Type 0) → Kept → Wire
    → Wire → Result VerifiedImage PullRefusal → Type 0
Finished row Gives k old new r =
    (pulled : Wire) × (l : Kept) × Transfer row old pulled k l r × IsKept r × Gives r pulled new

-- one of whose result not all was sent
abbrev pub FinishedCut : Whole VerifiedImage → Bool → Kept → HostError → Wire → Wire → Type 0
FinishedCut row blobs k e old new =
    (r : Result VerifiedImage PullRefusal) × Finished row (λ outcome. OutcomeCut blobs outcome e) k old new r

-- the search by these terms
abbrev pub searched_by : {V : Type 0} {H : V → Type 0}
    → Terms V H → FinMap by_bytes (List ℕ) → Settings → Row TrustedLayers
searched_by terms log_keys settings =
    searched (everyone log_keys) (within settings terms.moment) (reference_in terms.image) (registry_auth terms.auth)

-- a search, questions about what it found, and a pull under the answers
pub record SearchAskPull (search : Row TrustedLayers) (Asks : Answers → List SignatureLayer → Type 0)
    (pull : Answers → Whole VerifiedImage) (Gives : Result VerifiedImage PullRefusal → Wire → Wire → Type 0) (k : Kept)
    (old new : Wire) (r : Result VerifiedImage PullRefusal) : Type 0 where
  pub searched_at : Wire
  pub kept : Kept
  pub layers : List SignatureLayer
  pub collects : Collects search old searched_at k kept layers
  pub asked_at : Wire
  pub answers : Answers
  pub questions : WereAsked answers.list searched_at asked_at
  pub about : Asks answers layers
  pub finished : Finished (pull answers) Gives kept asked_at new r

-- a search, and questions about what it found, of which not every one was answered
pub record SearchCut (search : Row TrustedLayers) (k : Kept) (e : HostError) (old new : Wire) : Type 0 where
  pub searched_at : Wire
  pub kept : Kept
  pub layers : List SignatureLayer
  pub collects : Collects search old searched_at k kept layers
  pub asks : AsksCause e searched_at new

-- why the three together ended early
abbrev pub SearchAskPullCut : Row TrustedLayers → (Answers → List SignatureLayer → Type 0)
    → (Answers → Whole VerifiedImage) → Bool → Kept → HostError → Wire → Wire → Type 0
SearchAskPullCut search Asks pull blobs k e old new = SearchCut search k e old new
    ⊎ ((r : Result VerifiedImage PullRefusal)
    × SearchAskPull search Asks pull (λ outcome. OutcomeCut blobs outcome e) k old new r)
