use Rattle.std.proofs.Common.{refl, ap, ◌∙◌}
use Rattle.cosign_rows.specs.Tails.{after_search}
use Rattle.cosign_rows.specs.Verified.{signed_digest}
use Rattle.cosign_rows.proofs.Exits.{and_then, refused, wanting, said_whole, says_same}
use Rattle.cosign_pull.proofs.verified.pull_selected.Goals as goal

pub returns-in_err-first : goal.returns-in_err-first
unfolding after_search
returns-in_err-first g c = λ s. wanting _ refl c.from_residual.ensures.1

pub returns-in_err-standing : goal.returns-in_err-standing
unfolding after_search
returns-in_err-standing g c = λ s. refused _ (said_whole _ (says_same _ _ (c.in_err-standing.ensures ∙ ap (signed_digest c.args.found) (rw c.as_slice.ensures at c.in_ok-first.ensures)))) c.from_residual-in_err-standing.ensures.1

pub returns : goal.returns
unfolding after_search
returns g c = λ s. and_then _ (said_whole _ (says_same _ _ (c.in_ok-standing.ensures ∙ ap (signed_digest c.args.found) (rw c.as_slice.ensures at c.in_ok-first.ensures)))) (c.pull_signed.ensures s)
