use Rattle.oci_protocol.proofs.Exits.{refused, and_then, said, passed_on}
use Rattle.sig_services.specs.Call.{call}
use Rattle.sig_services.proofs.call.call.Goals as goal

pub returns-in_err-request : goal.returns-in_err-request
unfolding call
returns-in_err-request g c = λ k. refused _ (said _ c.in_err-request.ensures) c.from_residual.ensures.1

pub returns-in_err-answer : goal.returns-in_err-answer
unfolding call
returns-in_err-answer g c = λ k. and_then _ (said _ c.in_ok-request.ensures) (refused _ (c.in_err-answer.ensures k) c.from_residual-in_err-answer.ensures.1)

pub returns-in_err-found : goal.returns-in_err-found
unfolding call
returns-in_err-found g c = λ k. and_then _ (said _ c.in_ok-request.ensures) (and_then _ (c.in_ok-answer.ensures k) (passed_on (said _ c.in_err-found.ensures) c.from_residual-in_err-found.ensures.1))

pub returns : goal.returns
unfolding call
returns g c = λ k. and_then _ (said _ c.in_ok-request.ensures) (and_then _ (c.in_ok-answer.ensures k) (said _ c.in_ok-found.ensures))
