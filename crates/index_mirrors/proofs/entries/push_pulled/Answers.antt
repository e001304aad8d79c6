use Rattle.std.proofs.Common.{refl}
use Rattle.index_mirrors.specs.Courses.{target_of}
use Rattle.index_mirrors.proofs.OneImage.{as_pulled, unpulled}
use Rattle.index_mirrors.proofs.entries.push_pulled.Goals as goal

pub returns-in-Err-clause-pushed : goal.returns-in-Err-clause-pushed
returns-in-Err-clause-pushed g c = unpulled (target_of c.args.client.now c.args.moment c.args.to.now) c.args.entry _ _ _ c.in-Err.refusal _ c.in-Err.is c.pull_refusal.ensures

pub returns-in-Err-clause-settings : goal.returns-in-Err-clause-settings
returns-in-Err-clause-settings g c = refl

pub returns-clause-pushed : goal.returns-clause-pushed
returns-clause-pushed g c = as_pulled (target_of c.args.client.now c.args.moment c.args.to.now) c.args.entry c.in-Ok.found _ c.in-Ok.is c.push_owned.ensures.pushed

pub returns-clause-settings : goal.returns-clause-settings
returns-clause-settings g c = c.push_owned.ensures.settings
