use Rattle.std.proofs.Common.{◌∙◌, ap, arith, length}
use Rattle.live_link.proofs.TakenBytes.{one_byte, line_ends, line_wants}
use Rattle.live_link.proofs.reading.read_line.Goals as goal

pub returns-then-room-eq10-clause-reads : goal.returns-then-room-eq10-clause-reads
returns-then-room-eq10-clause-reads g c most =
    line_ends c.loop-room.line c.take.new.room c.in_ok-count.count (g.S.Source.state c.args.source.now) (g.S.Source.state c.loop-room.source) (g.S.Source.state c.take.new.self)
    c.loop-room.invariant.1 (omega (arith, c.loop-room-test.true, ap length c.as_slice.ensures)) c.in_ok-count.ensures.prefix c.in_ok-count.ensures.no_fault
    (one_byte c.take.new.room c.in_ok-count.count 10 (c.take.auto.room ∙ c.loop-room.invariant.0) c.in_ok-count.ensures.most (omega (arith, c.if-count-eq0.false)) c.if-room-eq10.true)

pub returns-in_err-append-clause-reads : goal.returns-in_err-append-clause-reads
returns-in_err-append-clause-reads g c most =
    line_wants most c.in_ok-count.count c.loop-room.line c.take.new.room (g.S.Source.state c.args.source.now) (g.S.Source.state c.loop-room.source) (g.S.Source.state c.take.new.self)
    c.from_residual-in_err-append.result c.from_residual-in_err-append.ensures.0 c.from_residual-in_err-append.ensures.1
    c.loop-room.invariant.1 c.in_ok-count.ensures.prefix c.in_ok-count.ensures.no_fault
