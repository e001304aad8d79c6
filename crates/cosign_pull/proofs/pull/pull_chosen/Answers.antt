use Rattle.std.proofs.Common.{refl}
use Rattle.cosign_rows.proofs.Exits.{wanting, done}
use Rattle.cosign_pull.proofs.pull.pull_chosen.Goals as goal

pub returns-in_err-bytes-in-Image : goal.returns-in_err-bytes-in-Image
returns-in_err-bytes-in-Image g c = record { run = λ s. wanting _ refl c.from_residual.ensures.1 }

pub returns-in_ok-bytes-in-Image : goal.returns-in_ok-bytes-in-Image
returns-in_ok-bytes-in-Image g c = record { run = λ s. rw (c.in-Image.is, c.in_ok-bytes-in-Image.ensures) done }
