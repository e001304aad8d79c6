use Rattle.oci_protocol.proofs.Exits.{refused, and_then, said, passed_on}
use Rattle.engine_rows.specs.Referrers.{pull_referrers}
use Rattle.engine_pull.proofs.referrers.pull_referrers.Goals as goal

pub returns-in_err-digest : goal.returns-in_err-digest
unfolding pull_referrers
returns-in_err-digest g c = refused _ (said _ c.in_err-digest.ensures) c.from_residual.ensures.1

pub returns-in_err-got : goal.returns-in_err-got
unfolding pull_referrers
returns-in_err-got g c = and_then _ (said _ c.in_ok-digest.ensures) (refused _ (rw c.as_str.ensures at c.in_err-got.ensures) c.from_residual-in_err-got.ensures.1)

pub returns-in_err-index : goal.returns-in_err-index
unfolding pull_referrers
returns-in_err-index g c = and_then _ (said _ c.in_ok-digest.ensures) (and_then _ (rw c.as_str.ensures at c.in_ok-got.ensures) (passed_on (rw c.as_str-2.ensures at c.in_err-index.ensures) c.from_residual-in_err-index.ensures.1))

pub returns : goal.returns
unfolding pull_referrers
returns g c = and_then _ (said _ c.in_ok-digest.ensures) (and_then _ (rw c.as_str.ensures at c.in_ok-got.ensures) (rw c.as_str-2.ensures at c.in_ok-index.ensures))
