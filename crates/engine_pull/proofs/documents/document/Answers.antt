use Rattle.oci_protocol.proofs.Exits.{refused, and_then, said, passed_on}
use Rattle.engine_rows.specs.Pulls.{document}
use Rattle.engine_pull.proofs.documents.document.Goals as goal

pub returns-in_err-request : goal.returns-in_err-request
unfolding document
returns-in_err-request g c = refused _ c.in_err-request.ensures c.from_residual.ensures.1

pub returns-in_err-got : goal.returns-in_err-got
unfolding document
returns-in_err-got g c = and_then _ c.in_ok-request.ensures (refused _ (c.in_err-got.ensures _) c.from_residual-in_err-got.ensures.1)

pub returns-in_err-found : goal.returns-in_err-found
unfolding document
returns-in_err-found g c = and_then _ c.in_ok-request.ensures (and_then _ (c.in_ok-got.ensures _) (passed_on (said _ c.in_err-found.ensures) c.from_residual-in_err-found.ensures.1))

pub returns : goal.returns
unfolding document
returns g c = and_then _ c.in_ok-request.ensures (and_then _ (c.in_ok-got.ensures _) (said _ c.in_ok-found.ensures))
