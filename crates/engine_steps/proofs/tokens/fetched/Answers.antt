use Rattle.std.proofs.Common.{refl}
use Rattle.engine_steps.proofs.HelperTrees.{not_ok}
use Rattle.engine_steps.proofs.RealmTokens.{unless_bearer, whatever_token}
use Rattle.oci_protocol.proofs.Exits.{done, passed_on}
use Rattle.engine_rows.proofs.Exits.{wanting}
use Rattle.engine_steps.proofs.tokens.fetched.Goals as goal

pub returns-in-Nothing : goal.returns-in-Nothing
returns-in-Nothing g c = record { run = λ k. rw c.in-Nothing.is done; unchanged = refl }

pub returns-in_err-token-in-Credentials : goal.returns-in_err-token-in-Credentials
returns-in_err-token-in-Credentials g c = record { run = λ k. rw c.in-Credentials.is (wanting c.from_residual.ensures.1); unchanged = not_ok _ _ _ c.from_residual.ensures.1 }

pub returns-in_ok-token-in-Credentials : goal.returns-in_ok-token-in-Credentials
returns-in_ok-token-in-Credentials g c = record { run = λ k. rw c.in-Credentials.is (rw c.in_ok-token-in-Credentials.ensures done); unchanged = whatever_token _ refl }

pub returns-in_err-token-in-Token : goal.returns-in_err-token-in-Token
returns-in_err-token-in-Token g c = record { run = λ k. rw c.in-Token.is (passed_on (c.in_err-token-in-Token.ensures.run k) c.from_residual-in_err-token-in-Token.ensures.1); unchanged = not_ok _ _ _ c.from_residual-in_err-token-in-Token.ensures.1 }

pub returns-in_ok-token-in-Token : goal.returns-in_ok-token-in-Token
returns-in_ok-token-in-Token g c = record { run = λ k. rw c.in-Token.is (c.in_ok-token-in-Token.ensures.run k); unchanged = unless_bearer _ (λ h. absurd h) c.in_ok-token-in-Token.ensures.bearer }
