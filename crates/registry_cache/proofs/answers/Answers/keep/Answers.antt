use Rattle.std.proofs.Common.{rules}
use Rattle.registry_cache.proofs.Kept.{kept_unbounded}
use Rattle.registry_cache.proofs.answers.Answers.keep.Goals as goal

pub returns-in_default-clause-ok : goal.returns-in_default-clause-ok
returns-in_default-clause-ok c = kept_unbounded c.args.self.now c.args.entry c.put.new.self (search rules) c.in_ok-put.ensures.ok
