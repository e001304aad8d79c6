use Rattle.pull_mirror.proofs.Planned.{both_planned}
use Rattle.pull_mirror.proofs.planning.bytes_pushes.Goals as goal

pub returns : goal.returns
returns c = both_planned _ _ _ _ _ c.new.ensures c.new-2.ensures c.in_ok-add_bytes.ensures c.in_ok-add_bytes-2.ensures
