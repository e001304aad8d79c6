use Rattle.std.proofs.Common.{sym, ◌∙◌}
use Rattle.oci_protocol.proofs.Exits.{done, passed_on}
use Rattle.engine_rows.proofs.Exits.{wanting, recalled}
use Rattle.engine_rows.specs.Rows.{token_for}
use Rattle.engine_steps.proofs.tokens.token_for.Goals as goal

pub returns-in_err-auth-in-Some : goal.returns-in_err-auth-in-Some
unfolding token_for
returns-in_err-auth-in-Some g c = recalled _ (wanting c.from_residual.ensures.1)

pub returns-in-None : goal.returns-in-None
unfolding token_for
returns-in-None g c = recalled _ (rw (sym (rw (c.in-None.is, c.resolve_registry.ensures) at c.get.ensures)) done)

pub returns-in_err-token : goal.returns-in_err-token
unfolding token_for
returns-in_err-token g c = recalled _ (wanting c.from_residual-in_err-token.ensures.1)

pub returns-in-Some-2 : goal.returns-in-Some-2
unfolding token_for
returns-in-Some-2 g c = recalled _ (rw (sym (rw (c.in-Some.is, c.resolve_registry.ensures) at c.get.ensures)) (rw (sym c.in_ok-token.ensures ∙ c.in-Some-2.is) done))

pub returns-in_err-token-in-None-2 : goal.returns-in_err-token-in-None-2
unfolding token_for
returns-in_err-token-in-None-2 g c = recalled _ (rw (sym (rw (c.in-Some.is, c.resolve_registry.ensures) at c.get.ensures)) (rw (sym c.in_ok-token.ensures ∙ c.in-None-2.is) (passed_on (rw c.in_ok-auth-in-Some.ensures at c.in_err-token-in-None-2.ensures) c.from_residual-in_err-token-in-None-2.ensures.1)))

pub returns : goal.returns
unfolding token_for
returns g c = recalled _ (rw (sym (rw (c.in-Some.is, c.resolve_registry.ensures) at c.get.ensures)) (rw (sym c.in_ok-token.ensures ∙ c.in-None-2.is) (rw c.in_ok-auth-in-Some.ensures at c.in_ok-token-in-None-2.ensures)))
