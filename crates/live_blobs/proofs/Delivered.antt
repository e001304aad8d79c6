-- How a result is sent, and what follows from how a call ended.
use Rattle.std.proofs.Common.{inl, inr, ℕ, List, [], Result, Ok, Err}
use Rattle.engine_terms.specs.declared.error.OciDistributionError.{OciDistributionError}
use Rattle.live_host.specs.HostErrors.{TellCause}
use Rattle.live_host.specs.Wire.{Wire, SendsFrame}
use Rattle.live_host.specs.Heads.{refused_head}
use Rattle.live_host.specs.declared.streams.HostError.{HostError}
use Rattle.live_host.specs.declared.streams.HostError.TheVariants as host
use Rattle.live_pull.specs.Status.{status_of}
use Rattle.live_pull.specs.declared.status.Status.{Status}
use Rattle.live_pull.specs.declared.status.Status.TheVariants as status
use Rattle.live_blobs.specs.Delivery.{BlobsCut, IsReport, RefusalCut}
use Rattle.live_blobs.specs.Ends.{DeliversBy, EndsBy, IsKept}
use Rattle.live_blobs.specs.Heads.{stood_head}

-- ---- by the status

-- a consequence of each result, and of each cut, is one of the end
pub ends_as : {A : Type 0} {P Q : Result A OciDistributionError → Type 0} {C D : HostError → Type 0} (s : Status)
    → ((r : Result A OciDistributionError) → IsKept r → P r → Q r) → ((e : HostError) → C e → D e) → EndsBy P C s → EndsBy Q D s
ends_as status.Pulled f g h = (h.0, f (Ok h.0) tt h.1)
ends_as status.Refused f g h = (h.0, h.1, f (Err h.0) h.1 h.2)
ends_as status.UnreadableSettings f g h = absurd h
ends_as status.HostBroken f g h = g host.Broken h
ends_as status.SinkFault f g h = g host.Unwritten h
ends_as status.WantOfMemory f g h = tt

-- not all of a result was sent
pub host_delivers : {A : Type 0} (Gives : Result A OciDistributionError → Wire → Wire → Type 0) (Cuts : Result A OciDistributionError → HostError → Wire → Wire → Type 0)
    (r : Result A OciDistributionError) (e : HostError) (old new : Wire) → IsKept r → Cuts r e old new → DeliversBy Gives Cuts r (status_of e) old new
host_delivers Gives Cuts r host.Broken old new kept cause = (kept, cause)
host_delivers Gives Cuts r host.Unwritten old new kept cause = (kept, cause)
host_delivers Gives Cuts r host.WantOfMemory old new kept cause = tt

-- ---- frames

-- the report of an error was not sent
pub no_report : (error : OciDistributionError) (report : List ℕ) (e : HostError) (old new : Wire) → IsReport error report → TellCause (refused_head report, []) e old new → RefusalCut error e old new
no_report error report host.Broken old new is cause = absurd cause
no_report error report host.Unwritten old new is cause = (report, is, cause)
no_report error report host.WantOfMemory old new is cause = tt

pub no_digests : (digests : List (List ℕ)) (r : Result Unit OciDistributionError) (e : HostError) (old new : Wire) → TellCause (stood_head digests, []) e old new → BlobsCut digests r e old new
no_digests digests r e old new cause = inl cause

pub no_error : (digests : List (List ℕ)) (error : OciDistributionError) (e : HostError) (old at new : Wire) → SendsFrame (stood_head digests) [] old at → RefusalCut error e at new → BlobsCut digests (Err error) e old new
no_error digests error e old at new told cause = inr (at, told, cause)
