use Rattle.oci_transport.proofs.TakenBytes.{takes_once}
use Rattle.engine_streams.proofs.stream.piece.Goals as goal

pub returns-in-Ok-clause-once : goal.returns-in-Ok-clause-once
returns-in-Ok-clause-once g c = takes_once _ _ _ c.in-Ok.ensures.taken
