use Rattle.std.proofs.Common.{◌≡◌, ◌++◌, take}
use Rattle.pod_reviews.proofs.images.append.Given as goal

abbrev pub invariant-loop-image : goal.invariant-loop-image
invariant-loop-image l = l.images ≡ l.initial.images ++ take l.image-index l.more
