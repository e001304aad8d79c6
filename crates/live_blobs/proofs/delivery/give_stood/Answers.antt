use Rattle.std.proofs.Common.{[]}
use Rattle.call_laws.specs.Blobs.{descriptors_of, range_of}
use Rattle.live_host.specs.HostErrors.{TellCause}
use Rattle.live_host.proofs.Causes.{passed}
use Rattle.live_blobs.specs.Heads.{stood_head}
use Rattle.live_blobs.specs.LiveBlobs.{digests_of}
use Rattle.live_blobs.proofs.delivery.give_stood.Goals as goal

pub returns-in_err-tell-clause-cause : goal.returns-in_err-tell-clause-cause
returns-in_err-tell-clause-cause g c =
    passed (TellCause (stood_head (digests_of (range_of c.args.range.first c.args.range.end (descriptors_of c.args.manifest.now))), [])) _ _ _ _ (rw (c.in_ok-head.ensures.head, c.in_ok-digests.ensures) at c.in_err-tell.ensures.cause) c.from_residual-in_err-tell.ensures
