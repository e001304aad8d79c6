use Rattle.std.proofs.Common.{◌≡◌, drop}
use Rattle.engine_rows.specs.Image.{all_accepted}
use Rattle.engine_rows.proofs.image.all_accepted.Given as goal

-- the first ones are accepted, so the others decide
abbrev pub invariant-loop-layer : goal.invariant-loop-layer
invariant-loop-layer l = all_accepted l.accepted (drop l.layer-index l.layers) ≡ all_accepted l.accepted l.layers
