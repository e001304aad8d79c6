use Rattle.cosign_parts.proofs.Ranges.{entries}
use Rattle.cosign_parts.proofs.Texts.{canonical}
use Rattle.cosign_parts.proofs.laws.log_texts_are_canonical.Goals as goal

pub returns-clause-canonical : goal.returns-clause-canonical
returns-clause-canonical c = canonical

pub returns-clause-range : goal.returns-clause-range
returns-clause-range c = entries
