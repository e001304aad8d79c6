use Rattle.std.proofs.Common.{sym, ◌∙◌}
use Rattle.live_host.specs.Wire.{wire}
use Rattle.live_check.proofs.Ends.{no_part, part_unasked, part_unheard, passed_on}
use Rattle.live_check.proofs.PartsIn.{is_part}
use Rattle.live_check.proofs.parts.next_part.Goals as goal

pub returns-in_err-tell-clause-cause : goal.returns-in_err-tell-clause-cause
returns-in_err-tell-clause-cause g c = passed_on _ _ _ (part_unasked _ _ _ _ c.in_ok-head.ensures.head c.in_err-tell.ensures.cause) c.from_residual-in_err-tell.ensures

pub returns-in_err-frame-clause-cause : goal.returns-in_err-frame-clause-cause
returns-in_err-frame-clause-cause g c = passed_on _ _ _ (part_unheard _ _ _ (wire g.S.Source.state g.K.Sink.state c.tell.new.streams) _ c.in_ok-head.ensures.head c.in_ok-tell.ensures.told c.in_err-frame.ensures.cause) c.from_residual-in_err-frame.ensures

pub returns-in_default-clause-cause : goal.returns-in_default-clause-cause
returns-in_default-clause-cause g c = no_part _ c.in_ok-frame.frame _ (wire g.S.Source.state g.K.Sink.state c.tell.new.streams) _ c.in_ok-head.ensures.head c.in_ok-tell.ensures.told c.in_ok-frame.ensures.heard (sym c.part_of.ensures ∙ c.in_default.is)

pub returns-clause-received : goal.returns-clause-received
returns-clause-received g c = is_part c.in_ok-head.head c.in_ok-frame.frame c.part_of.result c.in-Some.part _ (wire g.S.Source.state g.K.Sink.state c.tell.new.streams) _ c.in_ok-head.ensures.head c.in_ok-tell.ensures.told c.in_ok-frame.ensures.heard c.part_of.ensures c.in-Some.is
