use Rattle.json_values.proofs.Refusals.{says_on}
use Rattle.engine_terms.specs.Error.{is_memory}
use Rattle.engine_push.proofs.content.with_length.Goals as goal

pub returns-in_err-sized : goal.returns-in_err-sized
returns-in_err-sized c = says_on is_memory _ _ _ (rw (c.as_str.ensures, c.in_ok-digits.ensures) at c.in_err-sized.ensures) c.from_residual-in_err-sized.ensures.1
