use Rattle.oci_protocol.proofs.Exits.{refused, and_then, said, done}
use Rattle.engine_pull.specs.Listings.{list_asked}
use Rattle.engine_pull.proofs.lists.list_asked.Goals as goal

pub returns-in_err-request : goal.returns-in_err-request
unfolding list_asked
returns-in_err-request g c = refused _ c.in_err-request.ensures c.from_residual.ensures.1

pub returns-in_err-got : goal.returns-in_err-got
unfolding list_asked
returns-in_err-got g c = and_then _ c.in_ok-request.ensures (refused _ (c.in_err-got.ensures _) c.from_residual-in_err-got.ensures.1)

pub returns-in_err-answer : goal.returns-in_err-answer
unfolding list_asked
returns-in_err-answer g c = and_then _ c.in_ok-request.ensures (and_then _ (c.in_ok-got.ensures _) (refused _ (said _ c.in_err-answer.ensures) c.from_residual-in_err-answer.ensures.1))

pub returns : goal.returns
unfolding list_asked
returns g c = and_then _ c.in_ok-request.ensures (and_then _ (c.in_ok-got.ensures _) (and_then _ (said _ c.in_ok-answer.ensures) done))
