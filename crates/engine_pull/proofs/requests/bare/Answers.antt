use Rattle.oci_protocol.proofs.Exits.{refused, and_then, said, passed_on}
use Rattle.engine_pull.specs.Listings.{bare}
use Rattle.engine_pull.proofs.requests.bare.Goals as goal

pub returns-in_err-token : goal.returns-in_err-token
unfolding bare
returns-in_err-token g c = refused _ c.in_err-token.ensures c.from_residual.ensures.1

pub returns-in_err-request : goal.returns-in_err-request
unfolding bare
returns-in_err-request g c = and_then _ c.in_ok-token.ensures (passed_on (said _ c.in_err-request.ensures) c.from_residual-in_err-request.ensures.1)

pub returns : goal.returns
unfolding bare
returns g c = and_then _ c.in_ok-token.ensures (said _ c.in_ok-request.ensures)
