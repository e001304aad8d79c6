-- Sinks that drop their bytes.
use Rattle.std.specs.Prelude.{ℕ, ◌+◌, Bool, List, [], ◌∷◌, map, None, if◌then◌else◌}
use Rattle.byte_streams.specs.SinkState.{SinkState}
use Rattle.http_server.specs.declared.log.Log.{Log}
use Rattle.image_blobs.specs.SinksState.{Closed, closing}

-- a sink that exposes no bytes and never fails
abbrev pub discarded : SinkState
discarded = record { taken = None; faults = 0 }

-- a sink that was closed, by the digest's bytes and by whether it was told that it has the blob
abbrev pub closed_by : Log ℕ Unit × Bool → Closed
closed_by entry = closing (map (λ byte. byte.0) entry.0.items) discarded entry.1

-- how many sinks were told that they have their blob
abbrev pub stood_among : List Closed → ℕ
stood_among [] = 0
stood_among (z ∷ zs) = (if z.stood then 1 else 0) + stood_among zs
