use Rattle.std.proofs.Common.{◌≡◌, ◌++◌, drop}
use Rattle.pod_reviews.specs.Places.{volumes_from}
use Rattle.pod_reviews.proofs.places.push_volumes.Given as goal

abbrev pub invariant-loop-index : goal.invariant-loop-index
invariant-loop-index l = l.fn.images ++ volumes_from 0 l.volumes ≡ l.images ++ volumes_from l.index (drop l.index l.volumes)
