use Rattle.std.proofs.Common.{◌≡◌, ◌++◌, flat_map, take}
use Rattle.engine_requests.specs.Requests.{behind}
use Rattle.engine_requests.proofs.requests.push_others.Given as goal

abbrev pub invariant-loop-kind : goal.invariant-loop-kind
invariant-loop-kind l = l.text ≡ l.fn.text ++ flat_map behind (take l.kind-index l.others)
