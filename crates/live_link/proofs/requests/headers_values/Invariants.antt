use Rattle.std.proofs.Common.{◌≡◌, ◌≤◌, ◌-◌, length, map, take}
use Rattle.std.specs.FinMap as finmap
use Rattle.std.specs.List.{flat_map}
use Rattle.serde_json.specs.View.{view}
use Rattle.live_link.specs.Requests.{values_data}
use Rattle.live_link.proofs.requests.headers_values.Given as goal

abbrev pub invariant-loop-name : goal.invariant-loop-name
invariant-loop-name l = (l.place ≤ length (finmap.keys l.headers)) × (map view l.values.items ≡ flat_map (values_data l.headers) (take l.place (finmap.keys l.headers)))

abbrev pub decreases-loop-name : goal.decreases-loop-name
decreases-loop-name l = length (finmap.keys l.headers) - l.place
