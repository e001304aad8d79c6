use Rattle.std.proofs.Common.{[]}
use Rattle.live_host.specs.HostErrors.{TellCause}
use Rattle.live_host.proofs.Causes.{passed}
use Rattle.live_blobs.specs.CarryHeads.{carried_head}
use Rattle.live_blobs.proofs.carry_delivery.give_carried.Goals as goal

pub returns-in_err-tell-clause-cause : goal.returns-in_err-tell-clause-cause
returns-in_err-tell-clause-cause g c =
    passed (TellCause (carried_head c.args.digest.now c.args.pushed, [])) _ _ _ _ (rw c.in_ok-head.ensures.head at c.in_err-tell.ensures.cause) c.from_residual-in_err-tell.ensures
