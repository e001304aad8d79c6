use Rattle.std.proofs.Common.{[], take}
use Rattle.std.specs.Prelude.{All}
use Rattle.live_host.specs.Questions.{AsksMore, LayerAsked}
use Rattle.live_host.specs.Wire.{wire}
use Rattle.live_host.proofs.questions.ask_layers.Given as goal

abbrev pub invariant-loop-layer : goal.invariant-loop-layer
invariant-loop-layer g l =
    AsksMore [] l.list (wire g.S.Source.state g.K.Sink.state l.initial.streams) (wire g.S.Source.state g.K.Sink.state l.streams)
    × All (LayerAsked l.list l.keys l.log_keys) (take l.layer-index l.layers)
