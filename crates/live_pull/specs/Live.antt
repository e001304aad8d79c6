-- A live pull: the settings, the search, the host's answers, the pull, and what is sent.
use Rattle.std.specs.Prelude.{◌≡◌, ◌⊎◌, true, false, List, [], All, Option, None, Result, Ok, Err}
use Rattle.serde_json.specs.Data.{Data}
use Rattle.oci_names.specs.Reference.{reference_of}
use Rattle.oci_names.specs.declared.reference.Reference.{Reference}
use Rattle.registry_calls.specs.Clients.{Kept}
use Rattle.cosign_parts.specs.declared.layer.SignatureLayer.{SignatureLayer}
use Rattle.cosign_chain.specs.declared.image.VerifiedImage.{VerifiedImage}
use Rattle.cosign_rows.specs.Refusal.{is_memory}
use Rattle.cosign_rows.specs.declared.refusal.PullRefusal.{PullRefusal}
use Rattle.live_host.specs.HostErrors.{AsksCause, SendsPrefix}
use Rattle.live_host.specs.Heads.{begin_head}
use Rattle.live_host.specs.Questions.{LayerAsked, WereAsked}
use Rattle.live_host.specs.Wire.{Wire, SendsAndReceives, SendsFrame, ReceivesFrame, ReceivesNone}
use Rattle.live_host.specs.declared.answers.Answers.{Answers}
use Rattle.live_host.specs.declared.streams.HostError.{HostError}
use Rattle.live_host.specs.declared.streams.HostError.TheVariants as host
use Rattle.cosign_client.specs.Clients.{fresh}
use Rattle.live_pull.specs.Pulls.{Collects, Transfer, context_of, meaning_of, search_row, pull_row}
use Rattle.live_pull.specs.Refusals.{OutcomeCut, OutcomeTold}
use Rattle.live_pull.specs.Settings.{settings_of}
use Rattle.live_pull.specs.Justified.{Confined, Justified}
use Rattle.live_pull.specs.declared.settings.LiveSettings.{LiveSettings}
use Rattle.live_pull.specs.declared.status.Status.{Status}
use Rattle.live_pull.specs.declared.status.Status.TheVariants as status

-- What was done by these settings, from one state of the streams to another: layers were searched; the host was asked
-- about them; the image was pulled under its answers, by the same client; and the result was sent. An image has its
-- chain under the host's answers and comes from the pull's exchanges, an error has its cause there, and both calls are
-- confined.
pub record LiveBy (Gives : Result VerifiedImage PullRefusal → Wire → Wire → Type 0) (settings : LiveSettings)
    (r : Result VerifiedImage PullRefusal) (old new : Wire) : Type 0 where
  pub image : Reference
  pub reads : reference_of settings.reference ≡ Ok image
  pub searched : Wire
  pub kept : Kept
  pub layers : List SignatureLayer
  pub search : Collects (search_row settings image) old searched (fresh true) kept layers
  pub search_confined : Confined (context_of settings) image settings.auth (fresh true) kept
      search.transfer.conversation
  pub asked : Wire
  pub answers : Answers
  pub questions : WereAsked answers.list searched asked
  pub about : All (LayerAsked answers.list settings.keys settings.log_keys) layers
  pub pulled : Wire
  pub left : Kept
  pub pull : Transfer (pull_row settings answers image) asked pulled kept left r
  pub founded : Justified (meaning_of settings answers) (context_of settings) image settings.auth settings.accepted
      kept left pull.conversation pull.faults r
  pub confined : Confined (context_of settings) image settings.auth kept left pull.conversation
  pub given : Gives r pulled new

abbrev pub Live : LiveSettings → Result VerifiedImage PullRefusal → Wire → Wire → Type 0
Live settings = LiveBy (OutcomeTold settings.blobs) settings

-- layers were searched by these settings, and not every question about them was answered; the search is confined
pub record LiveAskingCut (settings : LiveSettings) (e : HostError) (old new : Wire) : Type 0 where
  pub image : Reference
  pub reads : reference_of settings.reference ≡ Ok image
  pub searched : Wire
  pub kept : Kept
  pub layers : List SignatureLayer
  pub search : Collects (search_row settings image) old searched (fresh true) kept layers
  pub search_confined : Confined (context_of settings) image settings.auth (fresh true) kept
      search.transfer.conversation
  pub asks : AsksCause e searched new

-- why a live pull ended before its result was sent: not every question was answered, or not all of the result was sent
abbrev pub LiveCut : LiveSettings → HostError → Wire → Wire → Type 0
LiveCut settings e old new = LiveAskingCut settings e old new
    ⊎ ((r : Result VerifiedImage PullRefusal)
    × LiveBy (λ outcome. OutcomeCut settings.blobs outcome e) settings r old new)

-- by the status: a result, or what broke the streams before it was sent; out of memory guarantees nothing
abbrev pub Ends : {A : Type 0} → (Result A PullRefusal → Type 0) → (HostError → Type 0) → Status → Type 0
Ends {A} P Cut status.Pulled = (v : A) × P (Ok v)
Ends P Cut status.Refused = (e : PullRefusal) × (is_memory e ≡ false) × P (Err e)
Ends P Cut status.UnreadableSettings = ⊥
Ends P Cut status.HostBroken = Cut host.Broken
Ends P Cut status.SinkFault = Cut host.Unwritten
Ends P Cut status.WantOfMemory = Unit {0}

-- a frame was received that parses as these settings
abbrev pub Begins : LiveSettings → Wire → Wire → Type 0
Begins settings old new = SendsAndReceives begin_head [] settings_of settings old new

-- a frame was received that does not parse
pub record NoFirst {X : Type 0} (reads : Data → Option X) (old new : Wire) : Type 0 where
  pub between : Wire
  pub told : SendsFrame begin_head [] old between
  pub frame : Data
  pub heard : ReceivesFrame frame between new
  pub unread : reads frame ≡ None

-- a frame was received that is not settings
abbrev pub NoSettings : Wire → Wire → Type 0
NoSettings = NoFirst settings_of

-- why no first frame was received
abbrev pub BeginCut : HostError → Wire → Wire → Type 0
BeginCut host.Broken old new = (between : Wire) × SendsFrame begin_head [] old between × ReceivesNone between new
BeginCut host.Unwritten old new = SendsPrefix (begin_head, []) old new
BeginCut host.WantOfMemory old new = Unit {0}

-- what was done with a host
abbrev pub Lives : Result VerifiedImage PullRefusal → Wire → Wire → Type 0
Lives r old new = (settings : LiveSettings) × (begun : Wire) × Begins settings old begun × Live settings r begun new

-- what was done with one until something broke the streams
abbrev pub LivesCut : HostError → Wire → Wire → Type 0
LivesCut e old new = BeginCut e old new
    ⊎ ((settings : LiveSettings) × (begun : Wire) × Begins settings old begun × LiveCut settings e begun new)

-- what a status means
abbrev pub StatusMeans : Status → Wire → Wire → Type 0
StatusMeans status.UnreadableSettings old new = NoSettings old new
StatusMeans other old new = Ends (λ r. Lives r old new) (λ e. LivesCut e old new) other
