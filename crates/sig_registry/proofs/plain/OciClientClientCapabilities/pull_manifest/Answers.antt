use Rattle.registry_calls.specs.Log.{ManifestCall}
use Rattle.sig_registry.proofs.Facts.{plainly}
use Rattle.sig_registry.proofs.plain.OciClientClientCapabilities.pull_manifest.Goals as goal

pub returns : goal.returns
returns g c = plainly (ManifestCall c.args.image.now c.args.auth.now) c.args.moment c.manifest_made.ensures
