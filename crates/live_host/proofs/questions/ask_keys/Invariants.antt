use Rattle.std.proofs.Common.{take}
use Rattle.std.specs.Prelude.{All}
use Rattle.live_host.specs.Questions.{AsksMore, KeyAsked}
use Rattle.live_host.specs.Wire.{wire}
use Rattle.live_host.proofs.questions.ask_keys.Given as goal

abbrev pub invariant-loop-key : goal.invariant-loop-key
invariant-loop-key g l =
    AsksMore l.initial.answers l.answers (wire g.S.Source.state g.K.Sink.state l.initial.streams) (wire g.S.Source.state g.K.Sink.state l.streams)
    × All (KeyAsked l.answers l.message l.signature) (take l.key-index l.keys)
