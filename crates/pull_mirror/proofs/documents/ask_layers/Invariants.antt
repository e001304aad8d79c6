use Rattle.std.proofs.Common.{take}
use Rattle.pull_mirror.specs.DocumentPlans.{AreAsked}
use Rattle.pull_mirror.specs.DocumentPushes.{layer_digests}
use Rattle.pull_mirror.proofs.documents.ask_layers.Given as goal

-- the layers so far
abbrev pub invariant-loop-layer : goal.invariant-loop-layer
invariant-loop-layer l = AreAsked (layer_digests (take l.layer-index l.layers)) l.asked
