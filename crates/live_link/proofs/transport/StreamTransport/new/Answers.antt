use Rattle.std.proofs.Common.{◌∷◌, [], ◌++◌, ap, ◌∙◌}
use Rattle.live_link.specs.State.{exchanges_by}
use Rattle.live_link.proofs.StreamEnds.{begins}
use Rattle.live_link.proofs.transport.StreamTransport.new.Goals as goal

pub invariant_of-result : goal.invariant_of-result
invariant_of-result g c = record {
  spoken = ∣ begins g.S.Source.state g.K.Sink.state c.and-began.result.items c.args.source c.args.sink _ (c.and-began.ensures ∙ ap (λ items. items ++ (c.args.source, c.args.sink) ∷ []) c.new.ensures) (ap (exchanges_by g.S.Source.state) c.new-2.ensures) ∣₁;
}
