use Rattle.engine_push.proofs.StreamTree.{if_not_sent, cut_by_one, cut_in_chunks}
use Rattle.engine_push.proofs.CallTree.{stream_by_one, stream_in_chunks}
use Rattle.engine_push.proofs.stream.push_blob_stream.Goals as goal

pub returns-then-call-clause-run : goal.returns-then-call-clause-run
returns-then-call-clause-run g c = stream_by_one _ _ _ _ _ c.if-call.true c.stream_whole.ensures.run

pub returns-then-call-clause-pushes : goal.returns-then-call-clause-pushes
returns-then-call-clause-pushes g c = c.stream_whole.ensures.pushes

pub returns-then-call-clause-source : goal.returns-then-call-clause-source
returns-then-call-clause-source g c = c.stream_whole.ensures.source

pub returns-clause-run : goal.returns-clause-run
returns-clause-run g c = stream_in_chunks _ _ _ _ _ c.if-call.false c.stream_chunked.ensures.run

pub returns-clause-pushes : goal.returns-clause-pushes
returns-clause-pushes g c = c.stream_chunked.ensures.pushes

pub returns-clause-source : goal.returns-clause-source
returns-clause-source g c = if_not_sent _ _ (g.P.PieceSource.state c.args.pieces.now) (g.P.PieceSource.state c.stream_chunked.new.pieces) (g.T.Transport.state c.args.transport.now) (g.T.Transport.state c.stream_chunked.new.transport) _ c.stream_chunked.ensures.source

pub returns-then-call-clause-cuts : goal.returns-then-call-clause-cuts
returns-then-call-clause-cuts g c = cut_by_one _ (g.P.PieceSource.state c.args.pieces.now) (g.P.PieceSource.state c.stream_whole.new.pieces) (g.T.Transport.state c.args.transport.now) (g.T.Transport.state c.stream_whole.new.transport) _ c.if-call.true c.stream_whole.ensures.cuts

pub returns-clause-cuts : goal.returns-clause-cuts
returns-clause-cuts g c = cut_in_chunks _ (g.P.PieceSource.state c.args.pieces.now) (g.P.PieceSource.state c.stream_chunked.new.pieces) (g.T.Transport.state c.args.transport.now) (g.T.Transport.state c.stream_chunked.new.transport) _ c.if-call.false c.stream_chunked.ensures.cuts
