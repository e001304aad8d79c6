use Rattle.live_link.specs.Shown.{exchanges_of}
use Rattle.live_link.proofs.StreamEnds.{ends}
use Rattle.live_link.proofs.transport.StreamTransport.finish.Goals as goal

pub returns : goal.returns
returns g c = record {
  transcript = λ taken left d told. ends g.S.Source.state g.K.Sink.state c.args.self.began.items c.args.self.source c.args.self.sink c.args.self.stage (exchanges_of c.args.self) d taken left c.args.self.spoken told;
}
