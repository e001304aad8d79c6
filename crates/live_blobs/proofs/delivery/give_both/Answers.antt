use Rattle.std.proofs.Common.{Err}
use Rattle.call_laws.specs.Blobs.{descriptors_of, range_of}
use Rattle.live_host.proofs.Causes.{passed}
use Rattle.live_blobs.specs.Delivery.{BlobsCut}
use Rattle.live_blobs.specs.LiveBlobs.{digests_of}
use Rattle.live_blobs.proofs.Delivered.{no_digests, no_error}
use Rattle.live_blobs.proofs.delivery.give_both.Goals as goal

pub returns-in_err-give_stood-clause-cause : goal.returns-in_err-give_stood-clause-cause
returns-in_err-give_stood-clause-cause g c =
    passed (BlobsCut (digests_of (range_of c.args.range.first c.args.range.end (descriptors_of c.args.manifest.now))) (Err c.args.error.now)) _ _ _ _ (no_digests _ (Err c.args.error.now) _ _ _ c.in_err-give_stood.ensures.cause) c.from_residual.ensures

pub returns-in_err-give_error-clause-cause : goal.returns-in_err-give_error-clause-cause
returns-in_err-give_error-clause-cause g c =
    passed (BlobsCut (digests_of (range_of c.args.range.first c.args.range.end (descriptors_of c.args.manifest.now))) (Err c.args.error.now)) _ _ _ _ (no_error _ c.args.error.now _ _ _ _ c.in_ok-give_stood.ensures.told c.in_err-give_error.ensures.cause) c.from_residual-in_err-give_error.ensures
