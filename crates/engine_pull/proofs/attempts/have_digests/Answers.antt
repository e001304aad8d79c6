use Rattle.std.proofs.Common.{[]}
use Rattle.engine_pull.proofs.AttemptSteps.{compared_on}
use Rattle.engine_pull.proofs.attempts.have_digests.Goals as goal

pub returns-in_err-both_compared : goal.returns-in_err-both_compared
returns-in_err-both_compared c = compared_on _ _ _ (c.in_err-both_compared.ensures _ (rw c.as_slice.ensures at (c.update.ensures _ _ [] c.digesters-digesters.ensures))) c.from_residual.ensures.1

pub returns : goal.returns
returns c = c.in_ok-both_compared.ensures _ (rw c.as_slice.ensures at (c.update.ensures _ _ [] c.digesters-digesters.ensures))
