use Rattle.registry_calls.specs.Calls.{push_call}
use Rattle.sig_registry.proofs.Facts.{never_kept}
use Rattle.sig_registry.proofs.caching.OciCachingClientClientCapabilities.push.Goals as goal

pub returns : goal.returns
unfolding push_call
returns g c = never_kept c.push_made.ensures
