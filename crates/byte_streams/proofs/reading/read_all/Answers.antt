use Rattle.std.proofs.Common.{ap, arith, length}
use Rattle.byte_streams.proofs.Springs.{more_taken, want_taken}
use Rattle.byte_streams.proofs.reading.read_all.Goals as goal

pub returns-then-count-limit-clause-reads : goal.returns-then-count-limit-clause-reads
returns-then-count-limit-clause-reads g c =
    more_taken _ _ _ _ (g.S.Source.state c.args.source.now) (g.S.Source.state c.loop-read.source) (g.S.Source.state c.take.new.self)
    c.loop-read.invariant.1 c.in_ok-count.ensures.prefix c.in_ok-count.ensures.no_fault c.in_ok-count.ensures.most (omega (arith, c.if-count-limit.true, ap length c.as_slice.ensures))

pub returns-in_err-append-clause-reads : goal.returns-in_err-append-clause-reads
returns-in_err-append-clause-reads g c =
    want_taken _ _ _ _ (g.S.Source.state c.args.source.now) (g.S.Source.state c.loop-read.source) (g.S.Source.state c.take.new.self)
    c.from_residual-in_err-append.result c.from_residual-in_err-append.ensures.0 c.from_residual-in_err-append.ensures.1
    c.loop-read.invariant.1 c.in_ok-count.ensures.prefix c.in_ok-count.ensures.no_fault c.in_ok-count.ensures.most (omega (arith, c.if-count-limit.false, ap length c.as_slice.ensures))
