use Rattle.std.proofs.Common.{ap, arith, length}
use Rattle.live_link.proofs.FrameParts.{error_is, more_stops, more_want}
use Rattle.live_link.proofs.reading.read_bytes.Goals as goal

pub returns-in_err-piece-clause-reads : goal.returns-in_err-piece-clause-reads
returns-in_err-piece-clause-reads g c =
    more_stops c.args.count _ c.loop-alloc.bytes c.from_residual.result c.take_some.result c.in_err-piece.field-0.0 (g.S.Source.state c.args.source.now) (g.S.Source.state c.loop-alloc.source) (g.S.Source.state c.take_some.new.source)
    (error_is c.from_residual.result c.in_err-piece.field-0.0 c.from_residual.ensures.0 c.from_residual.ensures.1) c.in_err-piece.was c.loop-alloc.invariant.1
    (omega (arith, c.loop-alloc-test.true, ap length c.as_slice.ensures)) c.take_some.ensures.takes

pub returns-in_err-append-clause-reads : goal.returns-in_err-append-clause-reads
returns-in_err-append-clause-reads g c =
    more_want c.args.count _ c.loop-alloc.bytes c.in_ok-piece.piece c.from_residual-in_err-append.result (g.S.Source.state c.args.source.now) (g.S.Source.state c.loop-alloc.source) (g.S.Source.state c.take_some.new.source)
    c.from_residual-in_err-append.ensures.0 c.from_residual-in_err-append.ensures.1 c.loop-alloc.invariant.1 c.in_ok-piece.ensures.takes
