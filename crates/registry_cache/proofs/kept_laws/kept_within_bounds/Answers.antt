use Rattle.registry_cache.proofs.Backs.{within_none}
use Rattle.registry_cache.proofs.Longest.{keeps_longest}
use Rattle.registry_cache.proofs.kept_laws.kept_within_bounds.Goals as goal

pub returns-clause-unbounded : goal.returns-clause-unbounded
returns-clause-unbounded c = within_none

pub returns-clause-longest : goal.returns-clause-longest
returns-clause-longest c = keeps_longest
