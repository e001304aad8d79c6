use Rattle.std.proofs.Common.{sym, ◌∙◌}
use Rattle.oci_protocol.proofs.Exits.{refused, and_then, said, done, passed_on}
use Rattle.engine_rows.proofs.Exits.{wanting}
use Rattle.engine_rows.specs.Rows.{authorized}
use Rattle.engine_steps.proofs.tokens.authorized.Goals as goal

pub returns-in_err-registry : goal.returns-in_err-registry
unfolding authorized
returns-in_err-registry g c = refused _ (said _ c.in_err-registry.ensures) c.from_residual.ensures.1

pub returns-in_err-goes : goal.returns-in_err-goes
unfolding authorized
returns-in_err-goes g c = and_then _ (said _ c.in_ok-registry.ensures) (wanting c.from_residual-in_err-goes.ensures.1)

pub returns-then-not-goes : goal.returns-then-not-goes
unfolding authorized
returns-then-not-goes g c = and_then _ (said _ c.in_ok-registry.ensures) (rw (sym c.in_ok-goes.ensures ∙ c.if-not-goes.true) done)

pub returns-in_err-token : goal.returns-in_err-token
unfolding authorized
returns-in_err-token g c = and_then _ (said _ c.in_ok-registry.ensures) (rw (sym c.in_ok-goes.ensures ∙ c.if-not-goes.false) (passed_on c.in_err-token.ensures c.from_residual-in_err-token.ensures.1))

pub returns : goal.returns
unfolding authorized
returns g c = and_then _ (said _ c.in_ok-registry.ensures) (rw (sym c.in_ok-goes.ensures ∙ c.if-not-goes.false) c.in_ok-token.ensures)
