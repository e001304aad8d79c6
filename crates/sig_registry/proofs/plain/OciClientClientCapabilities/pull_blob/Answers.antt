use Rattle.registry_calls.specs.Calls.{blob_call}
use Rattle.sig_registry.proofs.Facts.{never_kept}
use Rattle.sig_registry.proofs.plain.OciClientClientCapabilities.pull_blob.Goals as goal

pub returns : goal.returns
unfolding blob_call
returns g c = never_kept c.blob_made.ensures
