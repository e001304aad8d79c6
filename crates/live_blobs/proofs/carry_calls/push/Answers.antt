use Rattle.engine_terms.specs.Contexts.{within}
use Rattle.live_host.specs.Wire.{wire}
use Rattle.live_blobs.proofs.Made.{pushed}
use Rattle.live_blobs.proofs.carry_calls.push.Goals as goal

pub returns : goal.returns
returns g c =
    pushed _ _ _ (wire g.S.Source.state g.K.Sink.state c.args.streams) (wire g.S.Source.state g.K.Sink.state (record { source = c.finish-source.result.0; sink = c.finish-source.result.1 })) c.new-transport.ensures.told c.new-transport.ensures.faults c.finish-source.ensures.transcript
    (within c.args.client.now.settings c.args.moment) c.args.into.now _ _ (g.B.Source.state c.args.bytes) (g.B.Source.state c.push_blob_stream_chunked-pushed.new.pieces.source)
    c.push_blob_stream_chunked-pushed.ensures.confined c.push_blob_stream_chunked-pushed.result c.push_blob_stream_chunked-pushed.ensures.run c.push_blob_stream_chunked-pushed.ensures.causes c.push_blob_stream_chunked-pushed.ensures.pushes c.push_blob_stream_chunked-pushed.ensures.source
