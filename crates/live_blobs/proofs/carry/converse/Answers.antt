use Rattle.live_host.specs.Wire.{wire}
use Rattle.live_blobs.proofs.CarryEnding.{delivered}
use Rattle.live_blobs.proofs.carry.converse.Goals as goal

pub returns : goal.returns
returns g c =
    delivered _ _ c.args.digest.now _ _ _ (wire g.S.Source.state g.K.Sink.state c.args.streams) (wire g.S.Source.state g.K.Sink.state c.carry-streams.result.0) _ c.deliver-status.result c.carry-streams.result.1.1
    c.carry-streams.ensures c.deliver-status.ensures
