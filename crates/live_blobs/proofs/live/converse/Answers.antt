use Rattle.call_laws.specs.Blobs.{descriptors_of}
use Rattle.live_host.specs.Wire.{wire}
use Rattle.live_blobs.proofs.Ending.{told_ends}
use Rattle.live_blobs.proofs.live.converse.Goals as goal

pub returns : goal.returns
returns g c =
    told_ends _ _ _ (descriptors_of c.args.manifest.now) c.args.range c.stood_range-stood.result c.pull-streams.result.1
    (wire g.S.Source.state g.K.Sink.state c.args.streams) (wire g.S.Source.state g.K.Sink.state c.pull-streams.result.0) _ c.pull-streams.result.2 c.deliver-status.result
    c.pull-streams.ensures.pulled c.pull-streams.ensures.received c.stood_range-stood.ensures c.deliver-status.ensures
