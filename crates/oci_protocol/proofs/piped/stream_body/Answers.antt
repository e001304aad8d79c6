use Rattle.oci_transport.proofs.TakenBytes.{takes_as}
use Rattle.oci_protocol.proofs.PiecesIntoSink.{poured_part, poured_more, poured_whole, poured_long, poured_calm, poured_last, poured_failed}
use Rattle.oci_protocol.proofs.piped.stream_body.Goals as goal

pub returns-in-Err-Failed-put_all-clause-prefix : goal.returns-in-Err-Failed-put_all-clause-prefix
returns-in-Err-Failed-put_all-clause-prefix g c = poured_part _ _ _ _ _ _ _ _ _ _ _ c.loop-piece.invariant (takes_as c.as_slice-bytes.ensures c.in-Ok.ensures.taken) c.in-Err-Failed-put_all.ensures.prefix

pub returns-in-Err-WantOfMemory-put_all-clause-prefix : goal.returns-in-Err-WantOfMemory-put_all-clause-prefix
returns-in-Err-WantOfMemory-put_all-clause-prefix g c = poured_part _ _ _ _ _ _ _ _ _ _ _ c.loop-piece.invariant (takes_as c.as_slice-bytes.ensures c.in-Ok.ensures.taken) c.in-Err-WantOfMemory-put_all.ensures.prefix

pub loop-piece-preserved : goal.loop-piece-preserved
loop-piece-preserved g c = poured_more _ _ _ _ _ _ _ _ _ _ _ _ c.loop-piece.invariant c.piece.ensures.told c.piece.ensures.steady c.piece.ensures.count (takes_as c.as_slice-bytes.ensures c.in-Ok.ensures.taken) c.if-more-limit.false c.update.ensures c.put_all.ensures.count c.in-Ok-put_all.ensures.whole

pub returns-then-more-eq0-clause-poured : goal.returns-then-more-eq0-clause-poured
returns-then-more-eq0-clause-poured g c = poured_whole _ _ _ _ _ _ _ _ _ _ c.loop-piece.invariant (takes_as c.as_slice-bytes.ensures c.in-Ok.ensures.taken) c.if-more-eq0.true

pub returns-then-more-limit-clause-long : goal.returns-then-more-limit-clause-long
returns-then-more-limit-clause-long g c = λ _. poured_long _ _ _ _ _ _ _ _ _ _ c.loop-piece.invariant (takes_as c.as_slice-bytes.ensures c.in-Ok.ensures.taken) c.if-more-limit.true

pub returns-then-more-eq0-clause-calm : goal.returns-then-more-eq0-clause-calm
returns-then-more-eq0-clause-calm g c = poured_calm _ _ _ _ _ _ _ _ _ _ c.loop-piece.invariant (takes_as c.as_slice-bytes.ensures c.in-Ok.ensures.taken)

pub returns-then-more-eq0-clause-pieces : goal.returns-then-more-eq0-clause-pieces
returns-then-more-eq0-clause-pieces g c = poured_last _ _ _ _ _ _ _ _ _ _ c.loop-piece.invariant (takes_as c.as_slice-bytes.ensures c.in-Ok.ensures.taken)

pub returns-then-more-limit-clause-pieces : goal.returns-then-more-limit-clause-pieces
returns-then-more-limit-clause-pieces g c = poured_last _ _ _ _ _ _ _ _ _ _ c.loop-piece.invariant (takes_as c.as_slice-bytes.ensures c.in-Ok.ensures.taken)

pub returns-in-Err-Failed-put_all-clause-pieces : goal.returns-in-Err-Failed-put_all-clause-pieces
returns-in-Err-Failed-put_all-clause-pieces g c = poured_last _ _ _ _ _ _ _ _ _ _ c.loop-piece.invariant (takes_as c.as_slice-bytes.ensures c.in-Ok.ensures.taken)

pub returns-in-Err-WantOfMemory-put_all-clause-pieces : goal.returns-in-Err-WantOfMemory-put_all-clause-pieces
returns-in-Err-WantOfMemory-put_all-clause-pieces g c = poured_last _ _ _ _ _ _ _ _ _ _ c.loop-piece.invariant (takes_as c.as_slice-bytes.ensures c.in-Ok.ensures.taken)

pub returns-in-Err-Failed-clause-pieces : goal.returns-in-Err-Failed-clause-pieces
returns-in-Err-Failed-clause-pieces g c = poured_failed _ _ _ _ _ _ (g.T.Transport.state c.piece.new.self) _ _ c.loop-piece.invariant (c.in-Err-Failed.ensures.none_returned)

pub returns-in-Err-WantOfMemory-clause-pieces : goal.returns-in-Err-WantOfMemory-clause-pieces
returns-in-Err-WantOfMemory-clause-pieces g c = poured_failed _ _ _ _ _ _ (g.T.Transport.state c.piece.new.self) _ _ c.loop-piece.invariant (c.in-Err-WantOfMemory.ensures.none_returned)
