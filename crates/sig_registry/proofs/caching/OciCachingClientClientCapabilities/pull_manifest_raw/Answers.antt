use Rattle.registry_calls.specs.Calls.{document_call}
use Rattle.sig_registry.proofs.Facts.{never_kept}
use Rattle.sig_registry.proofs.caching.OciCachingClientClientCapabilities.pull_manifest_raw.Goals as goal

pub returns : goal.returns
unfolding document_call
returns g c = never_kept c.document_made.ensures
