use Rattle.std.proofs.Common.{◌+◌, ap, arith, drop, length, refl, sym, take, ◌∙◌}
use Rattle.push_rows.proofs.Carried.{sends_as}
use Rattle.engine_push.proofs.Leads.{chunking_start, chunking_wanting, chunking_front, chunking_refused, chunking_part, chunking_more, chunking_met, chunking_sent}
use Rattle.engine_push.proofs.uploads.chunks_sent.Goals as goal

pub loop-left-init : goal.loop-left-init
loop-left-init g c = chunking_start _ _ _ _ _ _ _ c.requires

pub returns-in_err-chunk-clause-run : goal.returns-in_err-chunk-clause-run
returns-in_err-chunk-clause-run g c = chunking_wanting _ _ _ _ _ _ _ _ c.loop-left.invariant _ c.from_residual.ensures.1

pub returns-in_err-chunk-clause-sends : goal.returns-in_err-chunk-clause-sends
returns-in_err-chunk-clause-sends g c = sends_as _ _ _ c.from_residual.ensures.1 (chunking_front _ _ _ _ _ _ _ _ c.loop-left.invariant)

pub split_at-requires : goal.split_at-requires
split_at-requires g c = omega (arith, c.min.ensures)

pub same-next : goal.same-next
same-next g c = refl

pub chunk_sent-requires : goal.chunk_sent-requires
chunk_sent-requires g c = omega (arith, c.loop-left.invariant.fits, c.min.ensures, c.split_at.ensures.front_len, ap length c.in_ok-chunk.ensures)

pub returns-in_err-next-clause-run : goal.returns-in_err-next-clause-run
returns-in_err-next-clause-run g c = chunking_refused _ _ _ _ _ _ _ _ c.loop-left.invariant _ _ _ (omega (arith, c.loop-left-test.true)) (c.in_ok-chunk.ensures ∙ c.split_at.ensures.front ∙ ap (λ n. take n c.loop-left.left.now) c.min.ensures) c.in_err-next.ensures.run c.from_residual-in_err-next.ensures.1

pub returns-in_err-next-clause-sends : goal.returns-in_err-next-clause-sends
returns-in_err-next-clause-sends g c = sends_as _ _ _ c.from_residual-in_err-next.ensures.1 (chunking_part _ _ _ _ _ _ _ _ c.loop-left.invariant _ (omega (arith, c.loop-left-test.true)) (c.in_ok-chunk.ensures ∙ c.split_at.ensures.front ∙ ap (λ n. take n c.loop-left.left.now) c.min.ensures) c.in_err-next.ensures.sends)

pub overflow_add-place : goal.overflow_add-place
overflow_add-place g c = omega (arith, c.loop-left.invariant.fits, c.min.ensures, c.split_at.ensures.front_len)

pub loop-left-smaller : goal.loop-left-smaller
loop-left-smaller g c = omega (arith, c.loop-left-test.true, c.min.ensures, c.split_at.ensures.back_len)

pub loop-left-preserved : goal.loop-left-preserved
loop-left-preserved g c = chunking_more _ _ _ _ _ _ _ _ c.loop-left.invariant _ _ _ _ (omega (arith, c.loop-left-test.true)) (c.in_ok-chunk.ensures ∙ c.split_at.ensures.front ∙ ap (λ n. take n c.loop-left.left.now) c.min.ensures) (c.split_at.ensures.back ∙ ap (λ n. drop n c.loop-left.left.now) c.min.ensures) (ap (λ xs. c.loop-left.place + length xs) (sym c.in_ok-chunk.ensures)) c.in_ok-next.ensures.run c.in_ok-next.ensures.sends

pub returns-clause-run : goal.returns-clause-run
returns-clause-run g c = chunking_met _ _ _ _ _ _ _ _ c.loop-left.invariant (omega (arith, c.loop-left-test.false))

pub returns-clause-sends : goal.returns-clause-sends
returns-clause-sends g c = chunking_sent _ _ _ _ _ _ _ _ c.loop-left.invariant (omega (arith, c.loop-left-test.false))
