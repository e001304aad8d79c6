use Rattle.std.proofs.Common.{Some, ap, ◌∙◌}
use Rattle.pull_generated.proofs.References.{by_parts}
use Rattle.pull_generated.proofs.terms.image.Goals as goal

pub returns : goal.returns
returns c = by_parts _ (c.with_tag.ensures.registry ∙ c.in_ok-registry.ensures) c.with_tag.ensures.mirror (c.with_tag.ensures.repository ∙ c.in_ok-repository.ensures) (c.with_tag.ensures.tag ∙ ap Some c.in_ok-tag.ensures) c.with_tag.ensures.digest
