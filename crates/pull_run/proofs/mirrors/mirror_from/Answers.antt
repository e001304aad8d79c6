use Rattle.std.proofs.Common.{length, ap, ◌∙◌}
use Rattle.pulled_cases.proofs.Cases.{none_made}
use Rattle.pull_run.proofs.mirrors.mirror_from.Goals as goal

pub mirror_opened-requires-clause-leads : goal.mirror_opened-requires-clause-leads
mirror_opened-requires-clause-leads g c = rw c.in-Ok.ensures.registry c.requires.ready.1

pub mirror_opened-requires-clause-once : goal.mirror_opened-requires-clause-once
mirror_opened-requires-clause-once g c = ap length c.in-Ok.ensures.moments ∙ c.requires.once

pub returns-in-Ok : goal.returns-in-Ok
returns-in-Ok g c = λ to opens_to. c.mirror_opened.ensures c.args.case c.in-Ok.ensures to opens_to

pub returns-in-Err : goal.returns-in-Err
returns-in-Err g c = λ to opens_to. none_made _ c.without_target.result c.without_target.ensures
