use Rattle.oci_protocol.proofs.Exits.{refused, and_then, said, passed_on}
use Rattle.engine_rows.specs.Rows.{prepared}
use Rattle.engine_steps.proofs.tokens.prepared.Goals as goal

pub returns-in_err-token : goal.returns-in_err-token
unfolding prepared
returns-in_err-token g c = refused _ c.in_err-token.ensures c.from_residual.ensures.1

pub returns-in_err-request : goal.returns-in_err-request
unfolding prepared
returns-in_err-request g c = and_then _ c.in_ok-token.ensures (passed_on (said _ c.in_err-request.ensures) c.from_residual-in_err-request.ensures.1)

pub returns : goal.returns
unfolding prepared
returns g c = and_then _ c.in_ok-token.ensures (said _ c.in_ok-request.ensures)
