use Rattle.oci_protocol.proofs.Exits.{refused, and_then, said, passed_on}
use Rattle.engine_rows.specs.Referrers.{referrers_asked}
use Rattle.engine_pull.proofs.referrers.referrers_asked.Goals as goal

pub returns-in_err-url : goal.returns-in_err-url
unfolding referrers_asked
returns-in_err-url g c = refused _ (said _ c.in_err-url.ensures) c.from_residual.ensures.1

pub returns-in_err-request : goal.returns-in_err-request
unfolding referrers_asked
returns-in_err-request g c = and_then _ (said _ c.in_ok-url.ensures) (refused _ c.in_err-request.ensures c.from_residual-in_err-request.ensures.1)

pub returns-in_err-got : goal.returns-in_err-got
unfolding referrers_asked
returns-in_err-got g c = and_then _ (said _ c.in_ok-url.ensures) (and_then _ c.in_ok-request.ensures (passed_on (c.in_err-got.ensures _) c.from_residual-in_err-got.ensures.1))

pub returns : goal.returns
unfolding referrers_asked
returns g c = and_then _ (said _ c.in_ok-url.ensures) (and_then _ c.in_ok-request.ensures (c.in_ok-got.ensures _))
