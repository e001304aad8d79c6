use Rattle.std.proofs.Common.{refl}
use Rattle.cosign_rows.specs.Search.{tag_source}
use Rattle.cosign_rows.proofs.Exits.{wanting}
use Rattle.cosign_pull.proofs.sources.tag_source.Goals as goal

pub returns-in_err-tag : goal.returns-in_err-tag
unfolding tag_source
returns-in_err-tag g c = λ s. wanting _ refl c.from_residual.ensures.1

pub returns : goal.returns
unfolding tag_source
returns g c = λ s. rw c.in_ok-tag.ensures at (c.tag_by.ensures s)
