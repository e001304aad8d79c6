use Rattle.std.proofs.Common.{refl}
use Rattle.oci_transport.proofs.TakenBytes.{takes_unknown}
use Rattle.live_link.specs.State.{exchanges_by}
use Rattle.live_link.proofs.Shown.{takes_part}
use Rattle.live_link.proofs.Steps.{after_piece}
use Rattle.live_link.proofs.transport.StreamTransportTransport.piece.Goals as goal

pub invariant_of-self-in-Some-1 : goal.invariant_of-self-in-Some-1
invariant_of-self-in-Some-1 g c = record {
  spoken = after_piece g.S.Source.state g.K.Sink.state c.args.self.now.began.items c.args.self.now.source c.ask_piece-stage.new.source c.args.self.now.sink c.ask_piece-stage.new.sink c.args.self.now.stage c.ask_piece-stage.result (exchanges_by g.S.Source.state c.args.self.now.heard.items) c.in-Open.is c.ask_piece-stage.ensures c.args.self.now.spoken;
}

pub invariant_of-self-in_default-piece : goal.invariant_of-self-in_default-piece
invariant_of-self-in_default-piece g c = record {
  spoken = after_piece g.S.Source.state g.K.Sink.state c.args.self.now.began.items c.args.self.now.source c.ask_piece-stage.new.source c.args.self.now.sink c.ask_piece-stage.new.sink c.args.self.now.stage c.ask_piece-stage.result (exchanges_by g.S.Source.state c.args.self.now.heard.items) c.in-Open.is c.ask_piece-stage.ensures c.args.self.now.spoken;
}

pub returns-clause-taken : goal.returns-clause-taken
returns-clause-taken g c = takes_unknown _ _ _ refl refl (λ h. refl) (takes_part (g.S.Source.state c.args.self.now.source) (g.S.Source.state c.ask_piece-stage.new.source) (g.K.Sink.state c.args.self.now.sink) (g.K.Sink.state c.ask_piece-stage.new.sink) c.args.self.now.stage c.ask_piece-stage.result c.in-Some.piece c.in-Open.is c.ask_piece-stage.ensures c.in-Some.is)
