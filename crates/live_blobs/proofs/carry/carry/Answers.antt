use Rattle.live_host.specs.Wire.{wire}
use Rattle.oci_engine.specs.Kept.{auth_state_of}
use Rattle.live_blobs.proofs.CarryEnding.{lacked, unasked, was_there}
use Rattle.live_blobs.proofs.carry.carry.Goals as goal

pub returns-in-Ok-true : goal.returns-in-Ok-true
returns-in-Ok-true g c =
    was_there _ _ c.args.digest.now _ (auth_state_of c.ask-streams.new.client) _ (wire g.S.Source.state g.K.Sink.state c.args.streams) (wire g.S.Source.state g.K.Sink.state c.ask-streams.result.0)
    (rw (c.in-Ok-true.is, c.in-Ok-true.field-0-test) at c.ask-streams.ensures.asked)

pub returns-in-Ok-false : goal.returns-in-Ok-false
returns-in-Ok-false g c =
    lacked _ _ c.args.digest.now _ (auth_state_of c.ask-streams.new.client) _ _ (wire g.S.Source.state g.K.Sink.state c.args.streams) (wire g.S.Source.state g.K.Sink.state c.ask-streams.result.0) _ c.push_lacked.result.1.1
    (rw (c.in-Ok-false.is, c.in-Ok-false.field-0-test) at c.ask-streams.ensures.asked) (rw c.ask-streams.ensures.settings at c.push_lacked.ensures)

pub returns-in-Err : goal.returns-in-Err
returns-in-Err g c =
    unasked _ _ c.args.digest.now _ (auth_state_of c.ask-streams.new.client) _ (wire g.S.Source.state g.K.Sink.state c.args.streams) (wire g.S.Source.state g.K.Sink.state c.ask-streams.result.0) c.in-Err.error
    (rw c.in-Err.is at c.ask-streams.ensures.asked)
