-- Documents that were decided on, before anything is sent.
use Rattle.std.specs.Prelude.{◌≡◌, ◌⊎◌, true, false, Result, Ok, Err}
use Rattle.oci_names.specs.Reference.{reference_of}
use Rattle.oci_names.specs.declared.reference.Reference.{Reference}
use Rattle.registry_calls.specs.Clients.{Kept}
use Rattle.cosign_client.specs.Clients.{fresh}
use Rattle.cosign_client.specs.State.{client_state}
use Rattle.cosign_client.specs.declared.client.Client.{Client}
use Rattle.cosign_chain.specs.declared.verified_documents.VerifiedDocuments.{VerifiedDocuments}
use Rattle.cosign_rows.specs.Refusal.{is_memory}
use Rattle.cosign_rows.specs.declared.refusal.PullRefusal.{PullRefusal}
use Rattle.live_host.specs.Wire.{Wire}
use Rattle.live_host.specs.declared.streams.HostError.{HostError}
use Rattle.live_pull.specs.Justified.{Confined}
use Rattle.live_pull.specs.Pulls.{client_settings, context_of}
use Rattle.live_pull.specs.declared.settings.LiveSettings.{LiveSettings}
use Rattle.live_pull.specs.declared.status.Status.{Status}
use Rattle.live_pull.specs.Course.{AskingCut, CourseBy, DocumentsCut, NothingTold}
use Rattle.live_pull.specs.DocumentsJustified.{JustifiedBy}
use Rattle.live_pull.specs.Rows.{asks_of, collect_row, decide_row}
use Rattle.live_pull.specs.Status.{StatusCause}

-- The same as `LiveDocuments`, but the result was not sent, and the client kept `k` before and `l` afterwards: what the
-- search requests may be cached in `k`; the documents are always requested.
pub record DecidedFrom (settings : LiveSettings) (k l : Kept) (r : Result VerifiedDocuments PullRefusal)
    (old new : Wire) : Type 0 where
  pub image : Reference
  pub reads : reference_of settings.reference ≡ Ok image
  pub course : CourseBy NothingTold (asks_of settings) (collect_row settings image) (decide_row settings image)
      k l old new r
  pub justified : JustifiedBy NothingTold settings image k l old new r course

-- the same by a new client
pub record DecidedDocuments (settings : LiveSettings) (r : Result VerifiedDocuments PullRefusal) (old new : Wire)
    : Type 0 where
  pub left : Kept
  pub decided : DecidedFrom settings (fresh true) left r old new

-- Nothing was decided: the search found layers, and not every question about them was answered. The search is confined.
pub record UndecidedFrom (settings : LiveSettings) (k l : Kept) (e : HostError) (old new : Wire) : Type 0 where
  pub image : Reference
  pub reads : reference_of settings.reference ≡ Ok image
  pub cut : AskingCut (collect_row settings image) k l e old new
  pub confined : Confined (context_of settings) image settings.auth k l cut.search.conversation

-- the same by a new client
pub record Undecided (settings : LiveSettings) (e : HostError) (old new : Wire) : Type 0 where
  pub left : Kept
  pub undecided : UndecidedFrom settings (fresh true) left e old new

-- the documents were decided on, and not all of the result was sent
pub record DecidedAndCut (settings : LiveSettings) (e : HostError) (old new : Wire) : Type 0 where
  pub result : Result VerifiedDocuments PullRefusal
  pub decided_at : Wire
  pub decided : DecidedDocuments settings result old decided_at
  pub cut : DocumentsCut result e decided_at new

-- why a live pull of documents ended before its result was sent
abbrev pub LiveDocumentsCut : LiveSettings → HostError → Wire → Wire → Type 0
LiveDocumentsCut settings e old new = Undecided settings e old new ⊎ DecidedAndCut settings e old new

-- the client has the settings and knows the logs that these settings state
abbrev pub Suits : LiveSettings → Client → Type 0
Suits settings client =
    ((client_state client).settings ≡ client_settings settings) × (client.rekor_pub_keys ≡ settings.log_keys)

-- a result with this property, unless memory ran out; or why there is none, by what broke the streams
abbrev pub Decides : {A : Type 0} → (Result A PullRefusal → Type 0) → (HostError → Type 0)
    → Result (Result A PullRefusal) Status → Type 0
Decides P Cut (Ok (Ok a)) = P (Ok a)
Decides P Cut (Ok (Err e)) = is_memory e ≡ false → P (Err e)
Decides P Cut (Err s) = StatusCause Cut s
