use Rattle.live_host.specs.Wire.{wire}
use Rattle.live_blobs.proofs.Ending.{live_ends}
use Rattle.live_blobs.proofs.live.serve_blobs.Goals as goal

pub returns : goal.returns
returns g c = record {
  status = live_ends c.args.settings c.open-opened.result (wire g.S.Source.state g.K.Sink.state c.args.streams) (wire g.S.Source.state g.K.Sink.state c.converse-ended.result.streams) c.converse-ended.result.status
      c.open-opened.ensures c.converse-ended.ensures;
}
