use Rattle.oci_protocol.proofs.Exits.{refused, and_then, said, passed_on}
use Rattle.sig_services.specs.Client.{asked}
use Rattle.sig_services.proofs.client.asked.Goals as goal

pub returns-in_err-request : goal.returns-in_err-request
unfolding asked
returns-in_err-request g c = λ k. refused _ (said _ c.in_err-request.ensures) c.from_residual.ensures.1

pub returns-in_err-answer : goal.returns-in_err-answer
unfolding asked
returns-in_err-answer g c = λ k. and_then _ (said _ c.in_ok-request.ensures) (passed_on (c.in_err-answer.ensures k) c.from_residual-in_err-answer.ensures.1)

pub returns : goal.returns
unfolding asked
returns g c = λ k. and_then _ (said _ c.in_ok-request.ensures) (c.in_ok-answer.ensures k)
