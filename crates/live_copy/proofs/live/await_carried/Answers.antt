use Rattle.std.proofs.Common.{[], refl, sym, ◌∙◌}
use Rattle.live_host.specs.Wire.{wire}
use Rattle.live_host.proofs.FramesIn.{asks}
use Rattle.live_copy.specs.Course.{CarryCut}
use Rattle.live_copy.specs.Heads.{carried_of, carry_head}
use Rattle.live_copy.proofs.Ending.{is_carried, other_reply, passed_on, unasked, unheard}
use Rattle.live_copy.proofs.live.await_carried.Goals as goal

pub returns-in_err-tell-clause-cause : goal.returns-in_err-tell-clause-cause
returns-in_err-tell-clause-cause g c =
    passed_on (λ e. CarryCut e (wire g.S.Source.state g.K.Sink.state c.args.streams.now) (wire g.S.Source.state g.K.Sink.state c.tell.new.streams)) _ _
    (unasked c.in_ok-head.head _ _ _ c.in_ok-head.ensures.head c.in_err-tell.ensures.cause) c.from_residual-in_err-tell.ensures

pub returns-in_err-frame-clause-cause : goal.returns-in_err-frame-clause-cause
returns-in_err-frame-clause-cause g c =
    passed_on (λ e. CarryCut e (wire g.S.Source.state g.K.Sink.state c.args.streams.now) (wire g.S.Source.state g.K.Sink.state c.hear.new.streams)) _ _
    (unheard c.in_ok-head.head _ _ (wire g.S.Source.state g.K.Sink.state c.tell.new.streams) _ c.in_ok-head.ensures.head c.in_ok-tell.ensures.told c.in_err-frame.ensures.cause) c.from_residual-in_err-frame.ensures

pub returns-then-is_carried-clause-carried : goal.returns-then-is_carried-clause-carried
returns-then-is_carried-clause-carried g c =
    asks c.in_ok-head.head carry_head _ [] carried_of tt c.in_ok-frame.frame c.in_ok-frame.frame _ _ _
    c.in_ok-head.ensures.head refl c.in_ok-tell.ensures.told c.in_ok-frame.ensures.heard refl (is_carried c.in_ok-frame.frame (sym c.is_carried.ensures ∙ c.if-is_carried.true))

pub returns-clause-cause : goal.returns-clause-cause
returns-clause-cause g c = other_reply c.in_ok-head.head c.in_ok-frame.frame _ _ _ c.in_ok-head.ensures.head c.in_ok-tell.ensures.told c.in_ok-frame.ensures.heard (sym c.is_carried.ensures ∙ c.if-is_carried.false)
