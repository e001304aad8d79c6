use Rattle.live_check.proofs.EntryLayers.{LayersSoFar}
use Rattle.live_check.proofs.layers.layers_in.Given as goal

-- the layers so far are those of the entries so far
abbrev pub invariant-loop-entry : goal.invariant-loop-entry
invariant-loop-entry l = LayersSoFar l.log_keys l.entry-items l.entry-index l.layers
