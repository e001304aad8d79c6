use Rattle.json_values.proofs.Refusals.{says_on}
use Rattle.engine_terms.specs.Error.{is_memory}
use Rattle.engine_requests.proofs.requests.with_token.Goals as goal

pub returns-in_err-headers-in-Some : goal.returns-in_err-headers-in-Some
returns-in_err-headers-in-Some c = rw c.in-Some.is (says_on is_memory _ _ _ (rw (c.as_str.ensures, c.in_ok-value-in-Some.ensures) at c.in_err-headers-in-Some.ensures) c.from_residual-in_err-headers-in-Some.ensures.1)
