use Rattle.std.proofs.Common.{length, ap, ◌∙◌}
use Rattle.pulled_cases.proofs.once.pull_once_under.Goals as goal

pub pull_first-requires-clause-leads : goal.pull_first-requires-clause-leads
pull_first-requires-clause-leads g c = rw c.in-Ok.ensures.registry c.requires.ready.1

pub pull_first-requires-clause-one : goal.pull_first-requires-clause-one
pull_first-requires-clause-one g c = ap length c.in-Ok.ensures.moments ∙ c.requires.one

pub returns-in-Ok : goal.returns-in-Ok
returns-in-Ok g c = c.pull_first.ensures c.args.case c.in-Ok.ensures
