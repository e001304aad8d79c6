-- Snapshots: where a call, or a part of it, begins and ends.
use Rattle.std.specs.Prelude.{◌≡◌, ℕ, List, [], Result}
use Rattle.oci_transport.specs.Link.{Link}
use Rattle.oci_transport.specs.declared.message.Exchange.{Exchange}
use Rattle.oci_protocol.specs.Runs.{Runs}
use Rattle.registry_calls.specs.declared.error.SigstoreError.{SigstoreError}
use Rattle.registry_calls.specs.Clients.{Client, Kept, Row}

-- the client's state, and the transport's fault count
pub record Snapshot : Type 0 where
  pub kept : Kept
  pub faults : ℕ

abbrev pub snapshot : Kept → ℕ → Snapshot
snapshot kept faults = record { kept = kept; faults = faults }

-- the snapshot of this client and this transport
abbrev pub snapshot_of : Client → Link → Snapshot
snapshot_of client link = snapshot client.kept link.faults

-- these exchanges are a complete run of this part from `start` to `end`, with this result
abbrev pub RanBetween : {A : Type 0} → Row A → Snapshot → List Exchange → Snapshot → Result A SigstoreError → Type 0
RanBetween p start c end r = Runs p start.kept start.faults c end.faults end.kept r

-- no request was sent, and nothing changed
abbrev pub NoOp : Snapshot → List Exchange → Snapshot → Type 0
NoOp start c end = (c ≡ []) × (start ≡ end)
