-- How a result is sent.
use Rattle.std.proofs.Common.{false, Err}
use Rattle.cosign_rows.specs.declared.refusal.PullRefusal.{PullRefusal}
use Rattle.live_host.specs.Wire.{Wire}
use Rattle.live_pull.specs.Parts.{Delivers, DeliversBy}
use Rattle.live_pull.specs.declared.status.Status.{Status}
use Rattle.live_pull.specs.declared.status.Status.TheVariants as status
use Rattle.live_pull.specs.Course.{DocumentsCut, DocumentsTold}

-- an error is sent as that of a pull of the image is
pub refusal_delivers : (e : PullRefusal) (s : Status) (old new : Wire) → Delivers false (Err e) s old new → DeliversBy DocumentsTold DocumentsCut (Err e) s old new
refusal_delivers e status.Pulled old new h = absurd h
refusal_delivers e status.Refused old new h = h
refusal_delivers e status.UnreadableSettings old new h = absurd h
refusal_delivers e status.HostBroken old new h = h
refusal_delivers e status.SinkFault old new h = h
refusal_delivers e status.WantOfMemory old new h = tt
