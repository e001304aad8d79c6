use Rattle.live_host.specs.Wire.{wire}
use Rattle.live_pull.specs.Status.{StatusCause}
use Rattle.live_admit.specs.Served.{ResponseCut}
use Rattle.live_admit.proofs.Ends.{passed_on}
use Rattle.live_admit.proofs.Reviews.{unsent}
use Rattle.live_admit.proofs.review.give_response.Goals as goal

pub returns-in_err-tell-clause-cause : goal.returns-in_err-tell-clause-cause
returns-in_err-tell-clause-cause g c =
    passed_on (StatusCause (λ e. ResponseCut c.args.mutate c.args.review.now c.args.verdicts.now e (wire g.S.Source.state g.K.Sink.state c.args.streams.now) (wire g.S.Source.state g.K.Sink.state c.tell.new.streams))) _ _
    (unsent c.args.mutate c.args.review.now c.args.verdicts.now _ _ _ _ _ c.in_ok-text.ensures.text c.in_ok-head.ensures.head c.in_err-tell.ensures.cause) c.from_residual-in_err-tell.ensures
