use Rattle.std.proofs.Common.{length}
use Rattle.json_values.specs.Places.{place_of}
use Rattle.json_values.proofs.Halves.{Searching}
use Rattle.json_values.proofs.map.place.Given as goal

abbrev pub invariant-loop-left : goal.invariant-loop-left
invariant-loop-left g l = Searching l.name (place_of l.name l.entries) (length l.entries) l.before l.left

abbrev pub decreases-loop-left : goal.decreases-loop-left
decreases-loop-left g l = length l.left
