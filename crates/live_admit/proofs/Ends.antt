-- Why a review is not served.
use Rattle.std.proofs.Common.{◌≡◌, inl, inr, Result, Ok, Err, IsErr, sym, subst}
use Rattle.std.specs.Prelude.{IfErr, IsErrAnd}
use Rattle.serde_json.specs.Data.{Data}
use Rattle.live_host.specs.HostErrors.{HearCause}
use Rattle.live_host.specs.Wire.{Wire, ReceivesFrame}
use Rattle.live_host.specs.declared.streams.HostError.{HostError}
use Rattle.live_host.specs.declared.streams.HostError.TheVariants as host
use Rattle.live_pull.specs.Status.{StatusCause, status_of}
use Rattle.live_pull.specs.declared.status.Status.{Status}
use Rattle.live_pull.specs.declared.status.Status.TheVariants as status
use Rattle.live_admit.specs.Served.{ReadsReview, ReceiveCut}

-- a frame that was not sent or received, with its cause
pub by_host : (Cut : HostError → Type 0) (e : HostError) → Cut e → StatusCause Cut (status_of e)
by_host Cut host.Broken cut = cut
by_host Cut host.Unwritten cut = cut
by_host Cut host.WantOfMemory cut = tt

-- what follows from each cause
pub cause_as : (Cut Other : HostError → Type 0) (s : Status) → ((e : HostError) → Cut e → Other e) → StatusCause Cut s → StatusCause Other s
cause_as Cut Other status.Pulled f h = absurd h
cause_as Cut Other status.Refused f h = absurd h
cause_as Cut Other status.UnreadableSettings f h = absurd h
cause_as Cut Other status.HostBroken f h = f host.Broken h
cause_as Cut Other status.SinkFault f h = f host.Unwritten h
cause_as Cut Other status.WantOfMemory f h = tt

-- nothing breaks the streams
pub never_cut : (Cut : HostError → Type 0) (s : Status) → StatusCause (λ e. ⊥) s → StatusCause Cut s
never_cut Cut s h = cause_as (λ e. ⊥) Cut s (λ e none. absurd none) h

-- no frame was received
pub unheard : (e : HostError) (old new : Wire) → HearCause e old new → StatusCause (λ e. ReceiveCut e old new) (status_of e)
unheard host.Broken old new cause = inl cause
unheard host.Unwritten old new cause = absurd cause
unheard host.WantOfMemory old new cause = tt

-- a frame was received that is not a review
pub unread : (s : Status) (d : Data) (old new : Wire) → ReceivesFrame d old new → ReadsReview (Err s) d → StatusCause (λ e. ReceiveCut e old new) s
unread status.Pulled d old new heard is = absurd is
unread status.Refused d old new heard is = absurd is
unread status.UnreadableSettings d old new heard is = absurd is
unread status.HostBroken d old new heard is = inr (d, heard, is)
unread status.SinkFault d old new heard is = absurd is
unread status.WantOfMemory d old new heard is = tt

-- a status that `?` passes on
pub passed_on : {X : Type 0} (P : Status → Type 0) (r : Result X Status) (s : Status) → P s → (IsErr r × IsErrAnd r (λ y. y ≡ s)) → IfErr r P
passed_on P (Ok x) s h is = tt
passed_on P (Err t) s h is = subst P (sym is.1) h
