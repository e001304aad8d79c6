use Rattle.live_host.specs.HostErrors.{GiveCause}
use Rattle.live_host.specs.Items.{image_sent}
use Rattle.live_host.proofs.Causes.{no_blobs, no_config, no_end, no_index, no_manifest, passed}
use Rattle.live_host.proofs.FramesOut.{told_image}
use Rattle.live_host.proofs.image.give_image.Goals as goal

pub returns-clause-told : goal.returns-clause-told
returns-clause-told g c = told_image c.args.blobs c.args.image.now _ _ _ _ _ _ c.in_ok-give_index.ensures.told c.in_ok-give_manifest.ensures.told c.in_ok-give_config.ensures.told c.in_ok-give_blobs.ensures.told (rw c.in_ok-head.ensures.head at c.in_ok-tell.ensures.told)

pub returns-in_err-give_index-clause-cause : goal.returns-in_err-give_index-clause-cause
returns-in_err-give_index-clause-cause g c = passed (GiveCause (image_sent c.args.blobs c.args.image.now)) _ _ _ _ (no_index c.args.blobs c.args.image.now _ _ _ c.in_err-give_index.ensures.cause) c.from_residual.ensures

pub returns-in_err-give_manifest-clause-cause : goal.returns-in_err-give_manifest-clause-cause
returns-in_err-give_manifest-clause-cause g c = passed (GiveCause (image_sent c.args.blobs c.args.image.now)) _ _ _ _ (no_manifest c.args.blobs c.args.image.now _ _ _ _ c.in_ok-give_index.ensures.told c.in_err-give_manifest.ensures.cause) c.from_residual-in_err-give_manifest.ensures

pub returns-in_err-give_config-clause-cause : goal.returns-in_err-give_config-clause-cause
returns-in_err-give_config-clause-cause g c = passed (GiveCause (image_sent c.args.blobs c.args.image.now)) _ _ _ _ (no_config c.args.blobs c.args.image.now _ _ _ _ _ c.in_ok-give_index.ensures.told c.in_ok-give_manifest.ensures.told c.in_err-give_config.ensures.cause) c.from_residual-in_err-give_config.ensures

pub returns-in_err-give_blobs-clause-cause : goal.returns-in_err-give_blobs-clause-cause
returns-in_err-give_blobs-clause-cause g c = passed (GiveCause (image_sent c.args.blobs c.args.image.now)) _ _ _ _ (no_blobs c.args.blobs c.args.image.now _ _ _ _ _ _ c.in_ok-give_index.ensures.told c.in_ok-give_manifest.ensures.told c.in_ok-give_config.ensures.told c.in_err-give_blobs.ensures.cause) c.from_residual-in_err-give_blobs.ensures

pub returns-in_err-tell-clause-cause : goal.returns-in_err-tell-clause-cause
returns-in_err-tell-clause-cause g c = passed (GiveCause (image_sent c.args.blobs c.args.image.now)) _ _ _ _ (no_end c.args.blobs c.args.image.now _ _ _ _ _ _ _ c.in_ok-give_index.ensures.told c.in_ok-give_manifest.ensures.told c.in_ok-give_config.ensures.told c.in_ok-give_blobs.ensures.told (rw c.in_ok-head.ensures.head at c.in_err-tell.ensures.cause)) c.from_residual-in_err-tell.ensures
