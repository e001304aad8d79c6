-- How a check ends.
use Rattle.std.specs.Prelude.{Bool, true, false}
use Rattle.live_host.specs.declared.streams.HostError.{HostError}
use Rattle.live_host.specs.declared.streams.HostError.TheVariants as host
use Rattle.live_pull.specs.declared.status.Status.{Status}
use Rattle.live_pull.specs.declared.status.Status.TheVariants as status

-- by the status: whether all holds, or what cut the check before the verdict on it was sent; out of memory guarantees
-- nothing
abbrev pub EndsChecked : (Bool → Type 0) → (HostError → Type 0) → Status → Type 0
EndsChecked Checks Cut status.Pulled = Checks true
EndsChecked Checks Cut status.Refused = Checks false
EndsChecked Checks Cut status.UnreadableSettings = ⊥
EndsChecked Checks Cut status.HostBroken = Cut host.Broken
EndsChecked Checks Cut status.SinkFault = Cut host.Unwritten
EndsChecked Checks Cut status.WantOfMemory = Unit {0}
