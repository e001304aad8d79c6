use Rattle.live_host.specs.Wire.{wire}
use Rattle.live_copy.specs.Parts.{HandCut}
use Rattle.live_copy.proofs.Ending.{no_documents, no_side, passed_on}
use Rattle.live_copy.proofs.live.hand_over.Goals as goal

pub returns-in_err-give_decided-clause-cause : goal.returns-in_err-give_decided-clause-cause
returns-in_err-give_decided-clause-cause g c =
    passed_on (λ e. HandCut c.args.found.now e (wire g.S.Source.state g.K.Sink.state c.args.streams.now) (wire g.S.Source.state g.K.Sink.state c.give_decided.new.streams)) _ _
    (no_documents c.args.found.now _ _ _ c.in_err-give_decided.ensures.cause) c.from_residual.ensures

pub returns-in_err-tell-clause-cause : goal.returns-in_err-tell-clause-cause
returns-in_err-tell-clause-cause g c =
    passed_on (λ e. HandCut c.args.found.now e (wire g.S.Source.state g.K.Sink.state c.args.streams.now) (wire g.S.Source.state g.K.Sink.state c.tell.new.streams)) _ _
    (no_side c.in_ok-side.side c.args.found.now _ _ (wire g.S.Source.state g.K.Sink.state c.give_decided.new.streams) _ c.in_ok-side.ensures.head c.in_ok-give_decided.ensures.told c.in_err-tell.ensures.cause) c.from_residual-in_err-tell.ensures
