use Rattle.std.proofs.Common.{refl}
use Rattle.cosign_rows.specs.Search.{referrer_row}
use Rattle.cosign_rows.proofs.Exits.{wanting}
use Rattle.cosign_pull.proofs.referrers.referrer.Goals as goal

pub returns-in_err-reference : goal.returns-in_err-reference
unfolding referrer_row
returns-in_err-reference g c = λ s. wanting _ refl c.from_residual.ensures.1

pub returns : goal.returns
unfolding referrer_row
returns g c = λ s. rw c.in_ok-reference.ensures at (c.referrer_by.ensures s)
