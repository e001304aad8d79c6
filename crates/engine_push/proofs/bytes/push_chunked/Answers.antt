use Rattle.oci_protocol.proofs.Exits.{refused, and_then, passed_on}
use Rattle.push_rows.specs.Calls.{push_chunked}
use Rattle.engine_push.proofs.bytes.push_chunked.Goals as goal

pub returns-in_err-location : goal.returns-in_err-location
unfolding push_chunked
returns-in_err-location g c = refused _ c.in_err-location.ensures.run c.from_residual.ensures.1

pub returns-in_err-end : goal.returns-in_err-end
unfolding push_chunked
returns-in_err-end g c = and_then _ c.in_ok-location.ensures.run (refused _ c.in_err-end.ensures.run c.from_residual-in_err-end.ensures.1)

pub returns-in_err-url : goal.returns-in_err-url
unfolding push_chunked
returns-in_err-url g c = and_then _ c.in_ok-location.ensures.run (and_then _ c.in_ok-end.ensures.run (passed_on c.in_err-url.ensures.run c.from_residual-in_err-url.ensures.1))

pub returns : goal.returns
unfolding push_chunked
returns g c = and_then _ c.in_ok-location.ensures.run (and_then _ c.in_ok-end.ensures.run c.in_ok-url.ensures.run)
