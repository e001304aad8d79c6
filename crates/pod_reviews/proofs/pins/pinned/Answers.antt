use Rattle.std.proofs.Common.{ℕ, List, ◌∙◌, subst}
use Rattle.pod_reviews.specs.Pins.{IsPinned}
use Rattle.pod_reviews.proofs.pins.pinned.Goals as goal

pub returns-clause-means : goal.returns-clause-means
returns-clause-means c =
    subst (λ (text : List ℕ). IsPinned c.args.image.now c.args.digest.now text) (c.as_str.ensures ∙ c.in_ok-text.ensures) (c.in_ok-means.ensures c.if-not-means.false)
