use Rattle.std.proofs.Common.{inl, inr}
use Rattle.std.proofs.lemmas.Result.{err_from_is_err_and}
use Rattle.image_blobs.proofs.EachInTurn.{range_none, so_far_none, so_far_next, met_stops, took_till, met_ends, took_ends}
use Rattle.call_laws.specs.Blobs.{descriptors_of, range_of}
use Rattle.image_blobs.proofs.PullsOfRange.{took_err}
use Rattle.image_blobs.proofs.SinksTaken.{rises, stays}
use Rattle.image_blobs.proofs.pulls.each_blob.Goals as goal

pub loop-at-init : goal.loop-at-init
loop-at-init g c = so_far_none _ _ _ _ _ _ _ _ _ _

pub loop-at-preserved : goal.loop-at-preserved
loop-at-preserved g c = so_far_next _ _ _ _ _ _ _ _ _ _ _ _ _ _ _ _ c.loop-at-test.true c.in-Some.ensures c.loop-at.invariant c.in_ok-kept_blob.ensures.run c.in_ok-kept_blob.ensures.took c.in_ok-kept_blob.ensures.count

pub returns-in_default-clause-run : goal.returns-in_default-clause-run
returns-in_default-clause-run g c = λ k. met_ends _ _ _ _ _ _ _ _ _ _ _ _ _ (range_none _ _ _ (inr c.in_default.ensures)) c.loop-at.invariant k

pub returns-in_default-clause-took : goal.returns-in_default-clause-took
returns-in_default-clause-took g c = λ k. took_ends _ _ _ _ _ _ _ _ _ _ _ _ _ (range_none _ _ _ (inr c.in_default.ensures)) c.loop-at.invariant k

pub returns-in_default-clause-count : goal.returns-in_default-clause-count
returns-in_default-clause-count g c = c.loop-at.invariant.count

pub returns-in_default-clause-sink : goal.returns-in_default-clause-sink
returns-in_default-clause-sink g c = λ k h. absurd (cc h)

pub returns-in_err-kept_blob-clause-run : goal.returns-in_err-kept_blob-clause-run
returns-in_err-kept_blob-clause-run g c = λ k. let at = err_from_is_err_and c.from_residual.result c.from_residual.ensures.1 in rw (at.1, at.2) (met_stops _ _ _ _ _ _ _ _ _ _ _ _ _ _ _ _ c.loop-at-test.true c.in-Some.ensures c.loop-at.invariant k (c.in_err-kept_blob.ensures.run k))

pub returns-in_err-kept_blob-clause-took : goal.returns-in_err-kept_blob-clause-took
returns-in_err-kept_blob-clause-took g c = λ k. took_err g.S.Sinks.fresh (range_of c.args.range.first c.args.range.end (descriptors_of c.args.manifest.now)) (g.T.Transport.state c.args.transport.now) (g.T.Transport.state c.kept_blob.new.transport) (g.S.Sinks.state c.args.sinks.now) (g.S.Sinks.state c.kept_blob.new.sinks) c.in_err-kept_blob.field-0.0 c.from_residual.result c.from_residual.ensures.1 (took_till _ _ _ _ _ _ _ _ _ _ _ _ _ _ _ _ c.loop-at-test.true c.in-Some.ensures c.loop-at.invariant c.in_err-kept_blob.ensures.took k)

pub returns-in_err-kept_blob-clause-count : goal.returns-in_err-kept_blob-clause-count
returns-in_err-kept_blob-clause-count g c = stays c.loop-at.invariant.count c.in_err-kept_blob.ensures.count

pub returns-in_err-kept_blob-clause-sink : goal.returns-in_err-kept_blob-clause-sink
returns-in_err-kept_blob-clause-sink g c = λ k. let at = err_from_is_err_and c.from_residual.result c.from_residual.ensures.1 in rw (at.1, at.2) (λ h. rises c.loop-at.invariant.count (c.in_err-kept_blob.ensures.sink k h))

pub returns-clause-run : goal.returns-clause-run
returns-clause-run g c = λ k. met_ends _ _ _ _ _ _ _ _ _ _ _ _ _ (range_none _ _ _ (inl c.loop-at-test.false)) c.loop-at.invariant k

pub returns-clause-took : goal.returns-clause-took
returns-clause-took g c = λ k. took_ends _ _ _ _ _ _ _ _ _ _ _ _ _ (range_none _ _ _ (inl c.loop-at-test.false)) c.loop-at.invariant k

pub returns-clause-count : goal.returns-clause-count
returns-clause-count g c = c.loop-at.invariant.count

pub returns-clause-sink : goal.returns-clause-sink
returns-clause-sink g c = λ k h. absurd (cc h)
