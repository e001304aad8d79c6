-- The exit statuses of a live pull.
use Rattle.std.specs.Prelude.{ℕ}
use Rattle.live_host.specs.declared.streams.HostError.{HostError}
use Rattle.live_host.specs.declared.streams.HostError.TheVariants as host
use Rattle.live_pull.specs.declared.status.Status.{Status}
use Rattle.live_pull.specs.declared.status.Status.TheVariants as status

-- the number of a status
abbrev pub code_of : Status → ℕ
code_of status.Pulled = 0
code_of status.Refused = 1
code_of status.UnreadableSettings = 3
code_of status.HostBroken = 4
code_of status.SinkFault = 5
code_of status.WantOfMemory = 6

-- the status if a frame was not sent or received
abbrev pub status_of : HostError → Status
status_of host.Broken = status.HostBroken
status_of host.Unwritten = status.SinkFault
status_of host.WantOfMemory = status.WantOfMemory

-- the cause of a status that says that a frame was not sent or received; out of memory guarantees nothing
abbrev pub StatusCause : (HostError → Type 0) → Status → Type 0
StatusCause Cause status.Pulled = ⊥
StatusCause Cause status.Refused = ⊥
StatusCause Cause status.UnreadableSettings = ⊥
StatusCause Cause status.HostBroken = Cause host.Broken
StatusCause Cause status.SinkFault = Cause host.Unwritten
StatusCause Cause status.WantOfMemory = Unit {0}
