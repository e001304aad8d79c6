use Rattle.std.proofs.Common.{refl, ap, ◌∙◌}
use Rattle.cosign_rows.specs.Verified.{signed_digest}
use Rattle.cosign_rows.proofs.Exits.{and_then, refused, wanting, said_whole, says_same}
use Rattle.cosign_rows.specs.Rows.{documents_after}
use Rattle.cosign_pull.proofs.decision.pull_after.Goals as goal

pub returns-in_err-first : goal.returns-in_err-first
unfolding documents_after
returns-in_err-first g c = λ s. wanting _ refl c.from_residual.ensures.1

pub returns-in_err-standing : goal.returns-in_err-standing
unfolding documents_after
returns-in_err-standing g c = λ s. refused _ (said_whole _ (says_same _ _ (c.in_err-standing.ensures ∙ ap (signed_digest c.args.found) (rw c.as_slice.ensures at c.in_ok-first.ensures)))) c.from_residual-in_err-standing.ensures.1

pub returns : goal.returns
unfolding documents_after
returns g c = λ s. and_then _ (said_whole _ (says_same _ _ (c.in_ok-standing.ensures ∙ ap (signed_digest c.args.found) (rw c.as_slice.ensures at c.in_ok-first.ensures)))) (c.pull_selected.ensures s)
