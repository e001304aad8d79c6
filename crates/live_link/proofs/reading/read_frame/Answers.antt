use Rattle.std.proofs.Common.{◌≡◌, Some, subst, arith}
use Rattle.live_link.specs.Frame.{head_of}
use Rattle.live_link.specs.Parts.{ReadsHead}
use Rattle.live_link.proofs.FrameParts.{error_is, line_stops, head_stops, size_stops, bytes_stop, frame_comes}
use Rattle.live_link.proofs.reading.read_frame.Goals as goal

pub returns-in_err-line-clause-reads : goal.returns-in_err-line-clause-reads
returns-in_err-line-clause-reads g c =
    line_stops c.args.most c.from_residual.result c.read_line.result c.in_err-line.field-0.0 (g.S.Source.state c.args.source.now) (g.S.Source.state c.read_line.new.source)
    (error_is c.from_residual.result c.in_err-line.field-0.0 c.from_residual.ensures.0 c.from_residual.ensures.1) c.in_err-line.was (c.read_line.ensures.reads c.args.most)

pub returns-in_err-head-clause-reads : goal.returns-in_err-head-clause-reads
returns-in_err-head-clause-reads g c =
    head_stops c.args.most c.in_ok-line.line c.from_residual-in_err-head.result c.read_head.result c.in_err-head.field-0.0 (g.S.Source.state c.args.source.now) (g.S.Source.state c.read_line.new.source)
    (error_is c.from_residual-in_err-head.result c.in_err-head.field-0.0 c.from_residual-in_err-head.ensures.0 c.from_residual-in_err-head.ensures.1) c.in_err-head.was (c.in_ok-line.ensures.reads c.args.most)
    (subst (λ l. ReadsHead c.read_head.result l) c.as_slice.ensures c.read_head.ensures)

pub returns-then-size-most-clause-reads : goal.returns-then-size-most-clause-reads
returns-then-size-most-clause-reads g c =
    size_stops c.args.most c.in_ok-line.line c.in_ok-head.head c.in_ok-head.size (g.S.Source.state c.args.source.now) (g.S.Source.state c.read_line.new.source) (c.in_ok-line.ensures.reads c.args.most)
    (subst (λ l. head_of l ≡ Some c.in_ok-head.head) c.as_slice.ensures c.in_ok-head.ensures.0) c.in_ok-head.ensures.1 (omega (arith, c.if-size-most.true))

pub returns-in_err-bytes-clause-reads : goal.returns-in_err-bytes-clause-reads
returns-in_err-bytes-clause-reads g c =
    bytes_stop c.args.most c.in_ok-head.size c.in_ok-line.line c.in_ok-head.head c.from_residual-in_err-bytes.result c.read_bytes.result c.in_err-bytes.field-0.0 (g.S.Source.state c.args.source.now) (g.S.Source.state c.read_line.new.source) (g.S.Source.state c.read_bytes.new.source)
    (error_is c.from_residual-in_err-bytes.result c.in_err-bytes.field-0.0 c.from_residual-in_err-bytes.ensures.0 c.from_residual-in_err-bytes.ensures.1) c.in_err-bytes.was (c.in_ok-line.ensures.reads c.args.most)
    (subst (λ l. head_of l ≡ Some c.in_ok-head.head) c.as_slice.ensures c.in_ok-head.ensures.0) c.in_ok-head.ensures.1 c.read_bytes.ensures.reads

pub returns-clause-reads : goal.returns-clause-reads
returns-clause-reads g c =
    frame_comes c.args.most c.in_ok-head.size c.in_ok-line.line c.in_ok-bytes.bytes c.in_ok-head.head (g.S.Source.state c.args.source.now) (g.S.Source.state c.read_line.new.source) (g.S.Source.state c.read_bytes.new.source)
    (c.in_ok-line.ensures.reads c.args.most) (subst (λ l. head_of l ≡ Some c.in_ok-head.head) c.as_slice.ensures c.in_ok-head.ensures.0) c.in_ok-head.ensures.1 (omega (arith, c.if-size-most.false))
    c.in_ok-bytes.ensures.reads.0 c.in_ok-bytes.ensures.reads.1 c.in_ok-bytes.ensures.reads.2
