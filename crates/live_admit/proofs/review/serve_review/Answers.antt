use Rattle.live_host.specs.Wire.{wire}
use Rattle.live_admit.proofs.Reviews.{served, unreceived}
use Rattle.live_admit.proofs.review.serve_review.Goals as goal

pub returns-in-Ok : goal.returns-in-Ok
returns-in-Ok g c = served c.args.rules.now.items _ c.in-Ok.frame _ _ _ c.answer.result.outcome c.in-Ok.ensures.received c.answer.ensures

pub returns-in-Err : goal.returns-in-Err
returns-in-Err g c = rw c.stop_with.ensures (unreceived c.args.rules.now.items c.args.rules.now.items c.in-Err.status (wire g.S.Source.state g.K.Sink.state c.args.streams) (wire g.S.Source.state g.K.Sink.state c.receive.new.streams) c.in-Err.ensures.cause)
