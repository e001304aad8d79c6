use Rattle.std.proofs.Common.{refl}
use Rattle.cosign_rows.proofs.Exits.{wanting}
use Rattle.cosign_pull.proofs.Exits.{stood_then}
use Rattle.cosign_pull.proofs.decision.pull_selected.Goals as goal

pub returns-in_err-named : goal.returns-in_err-named
returns-in_err-named g c = λ s. wanting _ refl c.from_residual.ensures.1

pub returns : goal.returns
returns g c = λ s. stood_then c.args.standing c.pull_documents-pulled.result (rw c.in_ok-named.ensures.0 at (c.pull_documents-pulled.ensures s)) c.signed_or_refused.ensures
