use Rattle.std.proofs.Common.{refl}
use Rattle.oci_transport.proofs.TakenBytes.{takes_as}
use Rattle.oci_protocol.proofs.PiecesIntoSink.{poured_none, poured_part, poured_more, poured_whole, poured_front, poured_long}
use Rattle.byte_streams.proofs.Sinks.{adds_none}
use Rattle.image_blobs.proofs.WithinSize.{within_so_far, within_part}
use Rattle.image_blobs.proofs.bodies.stream_within.Goals as goal

pub returns-in-Err-Failed-put_all-clause-prefix : goal.returns-in-Err-Failed-put_all-clause-prefix
returns-in-Err-Failed-put_all-clause-prefix g c = poured_part _ _ _ _ _ _ _ _ _ _ _ c.loop-piece.invariant (takes_as c.as_slice-bytes.ensures c.in-Ok.ensures.taken) c.in-Err-Failed-put_all.ensures.prefix

pub returns-in-Err-WantOfMemory-put_all-clause-prefix : goal.returns-in-Err-WantOfMemory-put_all-clause-prefix
returns-in-Err-WantOfMemory-put_all-clause-prefix g c = poured_part _ _ _ _ _ _ _ _ _ _ _ c.loop-piece.invariant (takes_as c.as_slice-bytes.ensures c.in-Ok.ensures.taken) c.in-Err-WantOfMemory-put_all.ensures.prefix

pub loop-piece-preserved : goal.loop-piece-preserved
loop-piece-preserved g c = poured_more _ _ _ _ _ _ _ _ _ _ _ _ c.loop-piece.invariant c.piece.ensures.told c.piece.ensures.steady c.piece.ensures.count (takes_as c.as_slice-bytes.ensures c.in-Ok.ensures.taken) c.if-more-limit.false c.update.ensures c.put_all.ensures.count c.in-Ok-put_all.ensures.whole

pub returns-then-more-eq0-clause-poured : goal.returns-then-more-eq0-clause-poured
returns-then-more-eq0-clause-poured g c = poured_whole _ _ _ _ _ _ _ _ _ _ c.loop-piece.invariant (takes_as c.as_slice-bytes.ensures c.in-Ok.ensures.taken) c.if-more-eq0.true

pub returns-then-more-limit-clause-long : goal.returns-then-more-limit-clause-long
returns-then-more-limit-clause-long g c = λ _. poured_long _ _ _ _ _ _ _ _ _ _ c.loop-piece.invariant (takes_as c.as_slice-bytes.ensures c.in-Ok.ensures.taken) c.if-more-limit.true

pub loop-piece-init : goal.loop-piece-init
loop-piece-init g c = poured_none _ _ _ _

pub returns-in-Err-Failed-clause-prefix : goal.returns-in-Err-Failed-clause-prefix
returns-in-Err-Failed-clause-prefix g c = poured_front _ _ _ _ _ _ _ _ _ c.loop-piece.invariant (adds_none _ _ refl)

pub returns-in-Err-Failed-clause-within : goal.returns-in-Err-Failed-clause-within
returns-in-Err-Failed-clause-within g c = within_so_far _ _ _ _ _ _ _ _ c.loop-piece.invariant

pub returns-in-Err-WantOfMemory-clause-prefix : goal.returns-in-Err-WantOfMemory-clause-prefix
returns-in-Err-WantOfMemory-clause-prefix g c = poured_front _ _ _ _ _ _ _ _ _ c.loop-piece.invariant (adds_none _ _ refl)

pub returns-in-Err-WantOfMemory-clause-within : goal.returns-in-Err-WantOfMemory-clause-within
returns-in-Err-WantOfMemory-clause-within g c = within_so_far _ _ _ _ _ _ _ _ c.loop-piece.invariant

pub returns-then-more-eq0-clause-prefix : goal.returns-then-more-eq0-clause-prefix
returns-then-more-eq0-clause-prefix g c = poured_front _ _ _ _ _ _ _ _ _ c.loop-piece.invariant (adds_none _ _ refl)

pub returns-then-more-eq0-clause-within : goal.returns-then-more-eq0-clause-within
returns-then-more-eq0-clause-within g c = within_so_far _ _ _ _ _ _ _ _ c.loop-piece.invariant

pub returns-then-more-limit-clause-prefix : goal.returns-then-more-limit-clause-prefix
returns-then-more-limit-clause-prefix g c = poured_front _ _ _ _ _ _ _ _ _ c.loop-piece.invariant (adds_none _ _ refl)

pub returns-then-more-limit-clause-within : goal.returns-then-more-limit-clause-within
returns-then-more-limit-clause-within g c = within_so_far _ _ _ _ _ _ _ _ c.loop-piece.invariant

pub returns-in-Err-Failed-put_all-clause-within : goal.returns-in-Err-Failed-put_all-clause-within
returns-in-Err-Failed-put_all-clause-within g c = within_part _ _ _ _ _ _ _ _ _ _ c.loop-piece.invariant c.if-more-limit.false c.in-Err-Failed-put_all.ensures.prefix

pub returns-in-Err-WantOfMemory-put_all-clause-within : goal.returns-in-Err-WantOfMemory-put_all-clause-within
returns-in-Err-WantOfMemory-put_all-clause-within g c = within_part _ _ _ _ _ _ _ _ _ _ c.loop-piece.invariant c.if-more-limit.false c.in-Err-WantOfMemory-put_all.ensures.prefix
