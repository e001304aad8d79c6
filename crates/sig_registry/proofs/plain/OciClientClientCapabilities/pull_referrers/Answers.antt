use Rattle.std.specs.Prelude.{option_copied}
use Rattle.registry_calls.specs.Log.{ReferrersCall}
use Rattle.sig_registry.proofs.Facts.{plainly}
use Rattle.sig_registry.proofs.plain.OciClientClientCapabilities.pull_referrers.Goals as goal

pub returns : goal.returns
returns g c = plainly (ReferrersCall c.args.image.now c.args.auth.now (option_copied c.args.artifact_type)) c.args.moment c.referrers_made.ensures
