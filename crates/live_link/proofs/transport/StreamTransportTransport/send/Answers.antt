use Rattle.std.proofs.Common.{◌∷◌, [], ◌++◌, refl, ap, ◌∙◌}
use Rattle.live_link.specs.State.{exchanges_by}
use Rattle.live_link.proofs.Laws.{opens, told_answered}
use Rattle.live_link.proofs.Shown.{tells}
use Rattle.live_link.proofs.Steps.{after_request}
use Rattle.live_link.proofs.transport.StreamTransportTransport.send.Goals as goal

pub invariant_of-self : goal.invariant_of-self
invariant_of-self g c = record {
  spoken = after_request g.S.Source.state g.K.Sink.state c.args.self.now.began.items c.args.self.now.heard.items c.and-self.result.items c.args.self.now.source c.ask_request-stage.new.source c.args.self.now.sink c.ask_request-stage.new.sink c.and-entry.result c.args.self.now.stage c.ask_request-stage.result c.args.request.now c.args.self.now.faults
      c.and-self.ensures (c.and-entry.ensures ∙ ap (λ xs. xs ++ (c.args.request.now, record { head = c.ask_request-stage.result.1; faults = c.args.self.now.faults }) ∷ []) c.new.ensures) c.ask_request-stage.ensures c.args.self.now.spoken;
}

pub invariant_of-self-in_default : goal.invariant_of-self-in_default
invariant_of-self-in_default g c = record {
  spoken = after_request g.S.Source.state g.K.Sink.state c.args.self.now.began.items c.args.self.now.heard.items c.and-self.result.items c.args.self.now.source c.ask_request-stage.new.source c.args.self.now.sink c.ask_request-stage.new.sink c.and-entry.result c.args.self.now.stage c.ask_request-stage.result c.args.request.now c.args.self.now.faults
      c.and-self.ensures (c.and-entry.ensures ∙ ap (λ xs. xs ++ (c.args.request.now, record { head = c.ask_request-stage.result.1; faults = c.args.self.now.faults }) ∷ []) c.new.ensures) c.ask_request-stage.ensures c.args.self.now.spoken;
}

pub returns-clause-answered : goal.returns-clause-answered
returns-clause-answered g c =
    let one = c.and-entry.ensures ∙ ap (λ xs. xs ++ (c.args.request.now, record { head = c.ask_request-stage.result.1; faults = c.args.self.now.faults }) ∷ []) c.new.ensures in
    let holds = after_request g.S.Source.state g.K.Sink.state c.args.self.now.began.items c.args.self.now.heard.items c.and-self.result.items c.args.self.now.source c.ask_request-stage.new.source c.args.self.now.sink c.ask_request-stage.new.sink c.and-entry.result c.args.self.now.stage c.ask_request-stage.result c.args.request.now c.args.self.now.faults
    c.and-self.ensures one c.ask_request-stage.ensures c.args.self.now.spoken in
    let opened = opens c.args.request.now c.args.self.now.stage c.ask_request-stage.result (g.S.Source.state c.args.self.now.source) (g.S.Source.state c.ask_request-stage.new.source) (g.K.Sink.state c.args.self.now.sink) (g.K.Sink.state c.ask_request-stage.new.sink) c.in-Some.head c.ask_request-stage.ensures c.in-Some.is in
    told_answered g.S.Source.state g.K.Sink.state c.args.self.now.began.items c.args.self.now.heard.items c.and-self.result.items c.ask_request-stage.new.source c.and-entry.result c.args.request.now c.ask_request-stage.result.1 c.in-Some.head c.ask_request-stage.result.0 _ _
    c.and-self.ensures one c.in-Some.is refl refl refl refl refl opened refl
    (λ before told. tells g.S.Source.state g.K.Sink.state c.args.self.now.began.items c.ask_request-stage.new.source c.ask_request-stage.new.sink c.ask_request-stage.result.0 (exchanges_by g.S.Source.state c.and-self.result.items) (exchanges_by g.S.Source.state c.args.self.now.heard.items) before holds told)
