use Rattle.live_host.specs.Wire.{wire}
use Rattle.live_blobs.proofs.Made.{call}
use Rattle.live_blobs.proofs.carry_calls.ask.Goals as goal

pub returns-clause-asked : goal.returns-clause-asked
returns-clause-asked g c =
    call _ _ _ (wire g.S.Source.state g.K.Sink.state c.args.streams) (wire g.S.Source.state g.K.Sink.state (record { source = c.finish-source.result.0; sink = c.finish-source.result.1 })) c.new-transport.ensures.told c.new-transport.ensures.faults c.finish-source.ensures.transcript
    _ _ _ _ _ _ c.blob_exists-there.ensures.confined c.blob_exists-there.result c.blob_exists-there.ensures.run c.blob_exists-there.ensures.causes
