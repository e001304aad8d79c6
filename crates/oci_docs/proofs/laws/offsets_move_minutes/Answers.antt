use Rattle.oci_docs.proofs.Range.{moves_minutes, no_time_outside}
use Rattle.oci_docs.proofs.laws.offsets_move_minutes.Goals as goal

pub returns-clause-moves : goal.returns-clause-moves
returns-clause-moves c = moves_minutes

pub returns-clause-range : goal.returns-clause-range
returns-clause-range c = no_time_outside
