use Rattle.std.proofs.Common.{refl}
use Rattle.cosign_rows.proofs.Exits.{wanting}
use Rattle.cosign_pull.proofs.referrers.pull_bundles.Goals as goal

pub returns-in_err-types : goal.returns-in_err-types
returns-in_err-types g c = λ s. wanting _ refl c.from_residual.ensures.1

pub returns : goal.returns
returns g c = λ s. rw (c.as_slice.ensures, c.in_ok-types.ensures) at (c.pull.ensures.run s)
