use Rattle.std.proofs.Common.{sym}
use Rattle.registry_cache.specs.Auths.{registry_auth}
use Rattle.registry_calls.specs.Direct.{reference_in}
use Rattle.oci_engine.specs.Refusals.{at_moment}
use Rattle.pull_mirror.proofs.TargetSides.{side_as, follows_as}
use Rattle.pull_mirror.proofs.outcomes.push_found.Goals as goal

pub returns-clause-follows : goal.returns-clause-follows
returns-clause-follows g c = follows_as c.args.found c.push_image-outcome.result c.copied.result c.copied.ensures

pub returns-clause-side : goal.returns-clause-side
returns-clause-side g c =
    side_as (at_moment c.args.client.now c.args.moment) (reference_in c.args.target.now) (registry_auth c.args.auth.now) c.args.found c.push_image-outcome.result c.copied.result c.copied.ensures
    c.push_image-outcome.ensures.run c.push_image-outcome.ensures.pushed c.push_image-outcome.ensures.stopped c.push_image-outcome.ensures.fault c.push_image-outcome.ensures.confined

pub returns-clause-settings : goal.returns-clause-settings
returns-clause-settings g c = c.push_image-outcome.ensures.settings
