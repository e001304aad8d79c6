use Rattle.engine_streams.proofs.JoinedPieces.{pieces_are_front, pieces_are_whole}
use Rattle.engine_streams.proofs.laws.pieces_are_the_body.Goals as goal

pub returns-clause-prefix : goal.returns-clause-prefix
returns-clause-prefix c = pieces_are_front

pub returns-clause-whole : goal.returns-clause-whole
returns-clause-whole c = pieces_are_whole
