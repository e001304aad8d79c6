use Rattle.std.proofs.Common.{refl}
use Rattle.engine_push.proofs.PieceTree.{piece_given, piece_failed, piece_wanting}
use Rattle.engine_push.proofs.pieces.next_piece.Goals as goal

pub returns-in-Ok-clause-run : goal.returns-in-Ok-clause-run
returns-in-Ok-clause-run g c = λ link k. piece_given _ link k

pub returns-in-Err-Failed-clause-run : goal.returns-in-Err-Failed-clause-run
returns-in-Err-Failed-clause-run g c = λ link k. piece_failed link k

pub returns-in-Err-Failed-clause-refused : goal.returns-in-Err-Failed-clause-refused
returns-in-Err-Failed-clause-refused g c = c.in-Err-Failed.ensures.fault (rw c.in-Err-Failed.field-0-is refl)

pub returns-in-Err-WantOfMemory-clause-run : goal.returns-in-Err-WantOfMemory-clause-run
returns-in-Err-WantOfMemory-clause-run g c = λ link k. piece_wanting link k
