use Rattle.registry_calls.specs.Log.{DigestCall}
use Rattle.sig_registry.proofs.Facts.{plainly}
use Rattle.sig_registry.proofs.plain.OciClientClientCapabilities.fetch_manifest_digest.Goals as goal

pub returns : goal.returns
returns g c = plainly (DigestCall c.args.image.now c.args.auth.now) c.args.moment c.digest_made.ensures
