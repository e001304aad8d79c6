use Rattle.std.proofs.Common.{◌≡◌, ◌≤◌, ◌-◌, ◌++◌, length, map, take}
use Rattle.serde_json.specs.View.{view}
use Rattle.oci_transport.specs.Headers.{values_of}
use Rattle.live_link.specs.Requests.{header_data}
use Rattle.live_link.proofs.requests.add_values.Given as goal

abbrev pub invariant-loop-value : goal.invariant-loop-value
invariant-loop-value l = (l.place ≤ length (values_of l.name l.headers)) × (map view l.values.items ≡ map view l.fn.values.items ++ map (λ value. header_data (l.name, value)) (take l.place (values_of l.name l.headers)))

abbrev pub decreases-loop-value : goal.decreases-loop-value
decreases-loop-value l = length (values_of l.name l.headers) - l.place
