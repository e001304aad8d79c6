use Rattle.std.proofs.Common.{[]}
use Rattle.live_host.specs.HostErrors.{TellCause}
use Rattle.live_host.specs.Wire.{wire}
use Rattle.live_pull.specs.Status.{StatusCause}
use Rattle.live_admit.specs.Frames.{unreadable_head}
use Rattle.live_admit.proofs.Ends.{passed_on}
use Rattle.live_admit.proofs.Reviews.{unsent_none}
use Rattle.live_admit.proofs.review.give_unreadable.Goals as goal

pub returns-in_err-tell-clause-cause : goal.returns-in_err-tell-clause-cause
returns-in_err-tell-clause-cause g c =
    passed_on (StatusCause (λ e. TellCause (unreadable_head, []) e (wire g.S.Source.state g.K.Sink.state c.args.streams.now) (wire g.S.Source.state g.K.Sink.state c.tell.new.streams))) _ _
    (unsent_none _ _ _ _ c.in_ok-head.ensures.head c.in_err-tell.ensures.cause) c.from_residual-in_err-tell.ensures
