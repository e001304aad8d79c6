use Rattle.std.proofs.Common.{Err, sym}
use Rattle.call_laws.specs.Blobs.{descriptors_of, range_of}
use Rattle.live_blobs.specs.Delivery.{BlobsCut, BlobsTold}
use Rattle.live_blobs.specs.LiveBlobs.{digests_of}
use Rattle.live_blobs.proofs.Delivered.{host_delivers}
use Rattle.live_blobs.proofs.delivery.deliver_error.Goals as goal

pub returns-in-Err : goal.returns-in-Err
returns-in-Err g c =
    rw c.from.ensures (host_delivers (BlobsTold (digests_of (range_of c.args.range.first c.args.range.end (descriptors_of c.args.manifest.now)))) (BlobsCut (digests_of (range_of c.args.range.first c.args.range.end (descriptors_of c.args.manifest.now)))) (Err c.args.error.now) c.in-Err.error _ _ (sym c.if-is_memory.ensures) c.in-Err.ensures.cause)
