use Rattle.std.proofs.Common.{refl}
use Rattle.registry_cache.specs.Auths.{registry_auth}
use Rattle.registry_calls.specs.Direct.{reference_in}
use Rattle.oci_engine.specs.Refusals.{at_moment}
use Rattle.pull_mirror.proofs.TargetSides.{follows_refused, side_refused, follows_pulled, not_refused}
use Rattle.pull_mirror.proofs.outcomes.push_pulled.Goals as goal

pub returns-in-Err-clause-follows : goal.returns-in-Err-clause-follows
returns-in-Err-clause-follows g c = follows_refused _ c.in-Err.refusal _ c.in-Err.is c.pull_error.ensures

pub returns-in-Err-clause-side : goal.returns-in-Err-clause-side
returns-in-Err-clause-side g c = side_refused (at_moment c.args.client.now c.args.moment) _ _ _ _ c.in-Err.refusal _ c.pull_error.ensures

pub returns-in-Err-clause-settings : goal.returns-in-Err-clause-settings
returns-in-Err-clause-settings g c = refl

pub returns-in-Err-clause-unsent : goal.returns-in-Err-clause-unsent
returns-in-Err-clause-unsent g c = λ refused. (refl, refl)

pub returns-clause-follows : goal.returns-clause-follows
returns-clause-follows g c = follows_pulled _ c.in-Ok.found _ c.in-Ok.is c.push_found.ensures.follows

pub returns-clause-side : goal.returns-clause-side
returns-clause-side g c = c.push_found.ensures.side

pub returns-clause-settings : goal.returns-clause-settings
returns-clause-settings g c = c.push_found.ensures.settings

pub returns-clause-unsent : goal.returns-clause-unsent
returns-clause-unsent g c = λ refused. not_refused _ c.in-Ok.found c.in-Ok.is refused
