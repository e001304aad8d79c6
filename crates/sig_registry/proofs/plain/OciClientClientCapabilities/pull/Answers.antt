use Rattle.registry_calls.specs.Log.{ImageCall}
use Rattle.sig_registry.proofs.Facts.{plainly, unnamed, with_name}
use Rattle.sig_registry.proofs.plain.OciClientClientCapabilities.pull.Goals as goal

pub returns : goal.returns
returns g c = with_name (plainly (ImageCall c.args.image.now c.args.auth.now c.args.accepted_media_types.now) c.args.moment (unnamed c.image_made.ensures)) c.image_made.ensures.named
