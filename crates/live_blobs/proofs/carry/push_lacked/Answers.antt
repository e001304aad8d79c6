use Rattle.live_host.specs.Wire.{wire}
use Rattle.live_blobs.proofs.CarryEnding.{compared, unpushed}
use Rattle.live_blobs.proofs.carry.push_lacked.Goals as goal

pub returns-in-Ok : goal.returns-in-Ok
returns-in-Ok g c =
    compared _ _ c.args.digest.now _ _ _ (wire g.S.Source.state g.K.Sink.state c.args.streams) (wire g.S.Source.state g.K.Sink.state c.push-streams.result.0) c.in-Ok.response c.compared.result
    (rw c.in-Ok.is at c.push-streams.ensures) c.compared.ensures

pub returns-in-Err : goal.returns-in-Err
returns-in-Err g c =
    unpushed _ _ c.args.digest.now _ _ _ (wire g.S.Source.state g.K.Sink.state c.args.streams) (wire g.S.Source.state g.K.Sink.state c.push-streams.result.0) c.in-Err.error
    (rw c.in-Err.is at c.push-streams.ensures)
