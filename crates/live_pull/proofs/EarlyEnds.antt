-- How a live pull ends early.
use Rattle.std.proofs.Common.{◌≡◌, ℕ, Bool, List, [], Option, Result, Ok, Err, IsErr, inl, inr, sym, subst}
use Rattle.std.specs.Prelude.{IfErr, IsErrAnd}
use Rattle.serde_json.specs.Data.{Data}
use Rattle.cosign_chain.specs.declared.image.VerifiedImage.{VerifiedImage}
use Rattle.cosign_rows.specs.declared.refusal.PullRefusal.{PullRefusal}
use Rattle.live_host.specs.Heads.{begin_head, refused_head}
use Rattle.live_host.specs.HostErrors.{HearCause, TellCause}
use Rattle.live_host.specs.Wire.{Wire, ReceivesFrame, SendsFrame}
use Rattle.live_host.specs.declared.streams.HostError.{HostError}
use Rattle.live_host.specs.declared.streams.HostError.TheVariants as host
use Rattle.live_pull.specs.Live.{BeginCut, Begins, Ends, Live, LiveCut, StatusMeans}
use Rattle.live_pull.specs.Parts.{BeginCause, Delivers, DeliversBy, FirstCause, IsKept, ReadsFirst, ReadsSettings}
use Rattle.live_pull.specs.Refusals.{IsReport, OutcomeCut, OutcomeTold, RefusalCut}
use Rattle.live_pull.specs.Settings.{settings_of}
use Rattle.live_pull.specs.Status.{StatusCause, status_of}
use Rattle.live_pull.specs.declared.settings.LiveSettings.{LiveSettings}
use Rattle.live_pull.specs.declared.status.Status.{Status}
use Rattle.live_pull.specs.declared.status.Status.TheVariants as status

pub host_ends : {A : Type 0} (P : Result A PullRefusal → Type 0) (Cut : HostError → Type 0) (e : HostError) → Cut e → Ends P Cut (status_of e)
host_ends P Cut host.Broken cut = cut
host_ends P Cut host.Unwritten cut = cut
host_ends P Cut host.WantOfMemory cut = tt

-- a cause of one thing is a cause of another
pub caused_as : {C D : HostError → Type 0} (s : Status) → ((e : HostError) → C e → D e) → StatusCause C s → StatusCause D s
caused_as status.Pulled f h = absurd h
caused_as status.Refused f h = absurd h
caused_as status.UnreadableSettings f h = absurd h
caused_as status.HostBroken f h = f host.Broken h
caused_as status.SinkFault f h = f host.Unwritten h
caused_as status.WantOfMemory f h = tt

pub host_gives : {A : Type 0} (Gives : Result A PullRefusal → Wire → Wire → Type 0) (Cuts : Result A PullRefusal → HostError → Wire → Wire → Type 0) (r : Result A PullRefusal) (e : HostError) (old new : Wire) → IsKept r → Cuts r e old new → DeliversBy Gives Cuts r (status_of e) old new
host_gives Gives Cuts (Ok v) host.Broken old new kept cut = (kept, cut)
host_gives Gives Cuts (Err x) host.Broken old new kept cut = (kept, cut)
host_gives Gives Cuts (Ok v) host.Unwritten old new kept cut = (kept, cut)
host_gives Gives Cuts (Err x) host.Unwritten old new kept cut = (kept, cut)
host_gives Gives Cuts (Ok v) host.WantOfMemory old new kept cut = tt
host_gives Gives Cuts (Err x) host.WantOfMemory old new kept cut = tt

pub host_delivers : (blobs : Bool) (r : Result VerifiedImage PullRefusal) (e : HostError) (old new : Wire) → IsKept r → OutcomeCut blobs r e old new → Delivers blobs r (status_of e) old new
host_delivers blobs r e old new kept cut = host_gives (OutcomeTold blobs) (OutcomeCut blobs) r e old new kept cut

pub wanting_delivers : (blobs : Bool) (r : Result VerifiedImage PullRefusal) (old new : Wire) → Delivers blobs r status.WantOfMemory old new
wanting_delivers blobs (Ok v) old new = tt
wanting_delivers blobs (Err x) old new = tt

-- an error was not sent
pub refusal_cut : (refusal : PullRefusal) (report : List ℕ) (e : HostError) (old new : Wire) → IsReport refusal report → TellCause (refused_head report, []) e old new → RefusalCut refusal e old new
refusal_cut refusal report host.Broken old new is cause = absurd cause
refusal_cut refusal report host.Unwritten old new is cause = (report, is, cause)
refusal_cut refusal report host.WantOfMemory old new is cause = tt

-- the first frame was not sent, or none was received after it
pub begin_untold : (e : HostError) (old new : Wire) → TellCause (begin_head, []) e old new → BeginCut e old new
begin_untold host.Broken old new cause = absurd cause
begin_untold host.Unwritten old new cause = cause
begin_untold host.WantOfMemory old new cause = tt

pub begin_unheard : (e : HostError) (old between new : Wire) → SendsFrame begin_head [] old between → HearCause e between new → BeginCut e old new
begin_unheard host.Broken old between new told cause = (between, told, cause)
begin_unheard host.Unwritten old between new told cause = absurd cause
begin_unheard host.WantOfMemory old between new told cause = tt

module _ {X : Type 0} (reads : Data → Option X) where
  pub host_first : (e : HostError) (old new : Wire) → BeginCut e old new → FirstCause reads (status_of e) old new
  host_first host.Broken old new cut = cut
  host_first host.Unwritten old new cut = cut
  host_first host.WantOfMemory old new cut = tt

  -- a status that `?` passes on, with its cause
  pub passed_first : (r : Result X Status) (s : Status) (old new : Wire) → FirstCause reads s old new → (IsErr r × IsErrAnd r (λ y. y ≡ s)) → IfErr r (λ t. FirstCause reads t old new)
  passed_first (Ok x) s old new cause is = tt
  passed_first (Err t) s old new cause is = subst (λ y. FirstCause reads y old new) (sym is.1) cause

  -- a frame that does not parse
  pub unread_first : (s : Status) (d : Data) (old between new : Wire) → SendsFrame begin_head [] old between → ReceivesFrame d between new → ReadsFirst reads (Err s) d → FirstCause reads s old new
  unread_first status.Pulled d old between new told heard is = absurd is
  unread_first status.Refused d old between new told heard is = absurd is
  unread_first status.UnreadableSettings d old between new told heard is = record { between = between; told = told; frame = d; heard = heard; unread = is }
  unread_first status.HostBroken d old between new told heard is = absurd is
  unread_first status.SinkFault d old between new told heard is = absurd is
  unread_first status.WantOfMemory d old between new told heard is = tt

pub host_begins : (e : HostError) (old new : Wire) → BeginCut e old new → BeginCause (status_of e) old new
host_begins e old new cut = host_first settings_of e old new cut

pub passed_begin : (r : Result LiveSettings Status) (s : Status) (old new : Wire) → BeginCause s old new → (IsErr r × IsErrAnd r (λ y. y ≡ s)) → IfErr r (λ t. BeginCause t old new)
passed_begin r s old new cause is = passed_first settings_of r s old new cause is

pub unread_begins : (s : Status) (d : Data) (old between new : Wire) → SendsFrame begin_head [] old between → ReceivesFrame d between new → ReadsSettings (Err s) d → BeginCause s old new
unread_begins s d old between new told heard is = unread_first settings_of s d old between new told heard is

-- ---- the whole pull

pub begun_says : (s : Status) (settings : LiveSettings) (old begun new : Wire) → Begins settings old begun → Ends (λ r. Live settings r begun new) (λ e. LiveCut settings e begun new) s → StatusMeans s old new
begun_says status.Pulled settings old begun new starts h = (h.0, (settings, begun, starts, h.1))
begun_says status.Refused settings old begun new starts h = (h.0, h.1, (settings, begun, starts, h.2))
begun_says status.UnreadableSettings settings old begun new starts h = absurd h
begun_says status.HostBroken settings old begun new starts h = inr (settings, begun, starts, h)
begun_says status.SinkFault settings old begun new starts h = inr (settings, begun, starts, h)
begun_says status.WantOfMemory settings old begun new starts h = tt

pub unbegun_says : (s : Status) (old new : Wire) → BeginCause s old new → StatusMeans s old new
unbegun_says status.Pulled old new h = absurd h
unbegun_says status.Refused old new h = absurd h
unbegun_says status.UnreadableSettings old new h = h
unbegun_says status.HostBroken old new h = inl h
unbegun_says status.SinkFault old new h = inl h
unbegun_says status.WantOfMemory old new h = tt
