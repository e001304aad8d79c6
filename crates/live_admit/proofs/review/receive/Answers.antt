use Rattle.live_host.specs.Wire.{wire}
use Rattle.live_pull.specs.Status.{StatusCause}
use Rattle.live_admit.specs.Served.{ReceiveCut}
use Rattle.live_admit.proofs.Ends.{passed_on, unheard, unread}
use Rattle.live_admit.proofs.review.receive.Goals as goal

pub returns-in_err-frame-clause-cause : goal.returns-in_err-frame-clause-cause
returns-in_err-frame-clause-cause g c =
    passed_on (StatusCause (λ e. ReceiveCut e (wire g.S.Source.state g.K.Sink.state c.args.streams.now) (wire g.S.Source.state g.K.Sink.state c.hear.new.streams))) _ _
    (unheard _ _ _ c.in_err-frame.ensures.cause) c.from_residual.ensures

pub returns-in_err-review-clause-cause : goal.returns-in_err-review-clause-cause
returns-in_err-review-clause-cause g c =
    passed_on (StatusCause (λ e. ReceiveCut e (wire g.S.Source.state g.K.Sink.state c.args.streams.now) (wire g.S.Source.state g.K.Sink.state c.hear.new.streams))) _ _
    (unread _ c.in_ok-frame.frame (wire g.S.Source.state g.K.Sink.state c.args.streams.now) (wire g.S.Source.state g.K.Sink.state c.hear.new.streams) c.in_ok-frame.ensures.heard c.in_err-review.ensures) c.from_residual-in_err-review.ensures
