use Rattle.oci_protocol.proofs.Exits.{done}
use Rattle.engine_rows.proofs.Exits.{wanting, caught, keeps_token, passed_met}
use Rattle.engine_rows.specs.Rows.{token_asked}
use Rattle.engine_steps.proofs.tokens.token_asked.Goals as goal

pub returns-in_err-kept-in-Ok-Some : goal.returns-in_err-kept-in-Ok-Some
unfolding token_asked
returns-in_err-kept-in-Ok-Some g c = caught _ (c.in-Ok-Some.ensures.run c.args.memory.now) (wanting c.from_residual.ensures.1)

pub returns-in_err-insert-in-Ok-Some : goal.returns-in_err-insert-in-Ok-Some
unfolding token_asked
returns-in_err-insert-in-Ok-Some g c = caught _ (c.in-Ok-Some.ensures.run c.args.memory.now) (rw c.in_err-insert-in-Ok-Some.ensures.err (wanting c.from_residual-in_err-insert-in-Ok-Some.ensures.1))

pub returns-in_ok-insert-in-Ok-Some : goal.returns-in_ok-insert-in-Ok-Some
unfolding token_asked
returns-in_ok-insert-in-Ok-Some g c = caught _ (rw c.in-Ok-Some.field-0-is at (c.in-Ok-Some.ensures.run c.args.memory.now)) (keeps_token _ _ _ _ _ (rw c.in_ok-kept-in-Ok-Some.ensures at c.in_ok-insert-in-Ok-Some.ensures.ok))

pub returns-in-Ok-None : goal.returns-in-Ok-None
unfolding token_asked
returns-in-Ok-None g c = caught _ (rw c.in-Ok-None.field-0-is at (c.in-Ok-None.ensures.run c.args.memory.now)) done

pub returns-in-Err : goal.returns-in-Err
unfolding token_asked
returns-in-Err g c = passed_met _ _ _ c.passed_over.ensures (c.in-Err.ensures.run c.args.memory.now)
