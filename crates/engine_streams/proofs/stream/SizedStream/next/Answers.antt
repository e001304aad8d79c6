use Rattle.std.proofs.Common.{refl}
use Rattle.engine_streams.proofs.Pieces.{compare_on}
use Rattle.engine_streams.proofs.stream.SizedStream.next.Goals as goal

pub returns-in_err-compare-clause-next : goal.returns-in_err-compare-clause-next
returns-in_err-compare-clause-next g c = λ limit gave h. compare_on limit gave _ _ _ _ _ _ _ c.in_ok-piece.ensures.taken (rw c.as_slice.ensures at c.if-more-eq0.true) c.compare.ensures.digests (c.in_err-compare.ensures.exact gave h.hashed) refl c.from_residual-in_err-compare.ensures.1
