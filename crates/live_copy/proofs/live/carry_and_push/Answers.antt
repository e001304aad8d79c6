use Rattle.live_host.specs.Wire.{wire}
use Rattle.live_copy.specs.Course.{CarryCut}
use Rattle.live_copy.specs.Parts.{CarriedAndPushed}
use Rattle.live_copy.proofs.Ending.{before_ends, carried_ends}
use Rattle.live_copy.proofs.live.carry_and_push.Goals as goal

pub returns-in-Ok : goal.returns-in-Ok
returns-in-Ok g c = carried_ends c.args.opened.now c.args.found.now _ _ _ c.push_and_tell.result.status c.in-Ok.ensures.carried c.push_and_tell.ensures

pub returns-in-Err : goal.returns-in-Err
returns-in-Err g c =
    rw c.end_with.ensures
    (before_ends (λ Gives. CarriedAndPushed Gives c.args.opened.now c.args.found.now (wire g.S.Source.state g.K.Sink.state c.args.streams) (wire g.S.Source.state g.K.Sink.state c.await_carried.new.streams)) (λ e. CarryCut e (wire g.S.Source.state g.K.Sink.state c.args.streams) (wire g.S.Source.state g.K.Sink.state c.await_carried.new.streams)) c.in-Err.status c.in-Err.ensures.cause)
