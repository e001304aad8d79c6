-- What a contract sees of sinks that drop their bytes.
use Rattle.std.specs.Prelude.{List, map, Some}
use Rattle.image_blobs.specs.SinksState.{Closed, SinksState}
use Rattle.live_blobs.specs.Discarded.{closed_by}
use Rattle.live_blobs.specs.declared.discard.DiscardSinks.{DiscardSinks}

-- the sinks that were closed
abbrev pub closed_of : DiscardSinks → List Closed
closed_of sinks = map closed_by sinks.closed.items

-- they are exposed, and none fails
abbrev pub discard_state : DiscardSinks → SinksState
discard_state sinks = record { closed = Some (closed_of sinks); faults = 0 }
