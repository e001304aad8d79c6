use Rattle.engine_steps.proofs.HelperTrees.{not_ok}
use Rattle.engine_steps.proofs.RealmTokens.{realm_bearer}
use Rattle.oci_protocol.proofs.Exits.{refused, and_then, said, passed_on}
use Rattle.engine_rows.specs.Rows.{realm_asked}
use Rattle.engine_steps.proofs.tokens.realm_asked.Goals as goal

pub returns-in_err-url : goal.returns-in_err-url
unfolding realm_asked
returns-in_err-url g c = record { run = λ k. refused _ (said _ c.in_err-url.ensures) c.from_residual.ensures.1; bearer = not_ok _ _ _ c.from_residual.ensures.1 }

pub returns-in_err-request : goal.returns-in_err-request
unfolding realm_asked
returns-in_err-request g c = record { run = λ k. and_then _ (said _ c.in_ok-url.ensures) (refused _ (said _ c.in_err-request.ensures) c.from_residual-in_err-request.ensures.1); bearer = not_ok _ _ _ c.from_residual-in_err-request.ensures.1 }

pub returns-in_err-got : goal.returns-in_err-got
unfolding realm_asked
returns-in_err-got g c = record { run = λ k. and_then _ (said _ c.in_ok-url.ensures) (and_then _ (said _ c.in_ok-request.ensures) (refused _ (c.in_err-got.ensures k) c.from_residual-in_err-got.ensures.1)); bearer = not_ok _ _ _ c.from_residual-in_err-got.ensures.1 }

pub returns-in_err-token : goal.returns-in_err-token
unfolding realm_asked
returns-in_err-token g c = record { run = λ k. and_then _ (said _ c.in_ok-url.ensures) (and_then _ (said _ c.in_ok-request.ensures) (and_then _ (c.in_ok-got.ensures k) (passed_on (said _ c.in_err-token.ensures) c.from_residual-in_err-token.ensures.1))); bearer = not_ok _ _ _ c.from_residual-in_err-token.ensures.1 }

pub returns : goal.returns
unfolding realm_asked
returns g c = record { run = λ k. and_then _ (said _ c.in_ok-url.ensures) (and_then _ (said _ c.in_ok-request.ensures) (and_then _ (c.in_ok-got.ensures k) (said _ c.in_ok-token.ensures))); bearer = realm_bearer _ _ _ c.in_ok-token.ensures }
