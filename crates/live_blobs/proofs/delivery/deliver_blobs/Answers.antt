use Rattle.std.proofs.Common.{Ok}
use Rattle.call_laws.specs.Blobs.{descriptors_of, range_of}
use Rattle.live_blobs.specs.Delivery.{BlobsCut, BlobsTold}
use Rattle.live_blobs.specs.LiveBlobs.{digests_of}
use Rattle.live_blobs.proofs.Delivered.{host_delivers, no_digests}
use Rattle.live_blobs.proofs.delivery.deliver_blobs.Goals as goal

pub returns-in-Err : goal.returns-in-Err
returns-in-Err g c =
    rw c.from.ensures (host_delivers (BlobsTold (digests_of (range_of c.args.range.first c.args.range.end (descriptors_of c.args.manifest.now)))) (BlobsCut (digests_of (range_of c.args.range.first c.args.range.end (descriptors_of c.args.manifest.now)))) (Ok tt) c.in-Err.error _ _ tt (no_digests _ (Ok tt) c.in-Err.error _ _ c.in-Err.ensures.cause))
