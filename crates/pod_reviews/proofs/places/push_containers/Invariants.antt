use Rattle.std.proofs.Common.{◌≡◌, ◌++◌, drop}
use Rattle.pod_reviews.specs.Places.{containers_from}
use Rattle.pod_reviews.proofs.places.push_containers.Given as goal

abbrev pub invariant-loop-index : goal.invariant-loop-index
invariant-loop-index l = l.fn.images ++ containers_from l.list 0 l.containers ≡ l.images ++ containers_from l.list l.index (drop l.index l.containers)
