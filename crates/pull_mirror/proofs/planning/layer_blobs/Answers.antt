use Rattle.pull_mirror.proofs.Planned.{layers_start}
use Rattle.pull_mirror.proofs.planning.layer_blobs.Goals as goal

pub loop-entry-init : goal.loop-entry-init
loop-entry-init c = layers_start _ _ _ c.new.ensures c.new-2.ensures
