use Rattle.std.proofs.Common.{◌≡◌, ◌++◌, take}
use Rattle.oci_engine.specs.Kept.{auth_state_of}
use Rattle.oci_engine.specs.Refusals.{at_moment}
use Rattle.pull_mirror.specs.Plans.{pushes_of}
use Rattle.pull_mirror.specs.Pushes.{digests_of}
use Rattle.pull_mirror.specs.Underway.{Made}
use Rattle.pull_mirror.proofs.sending.send_each.Given as goal

-- the pushes so far; the settings are unchanged
abbrev pub invariant-loop-push : goal.invariant-loop-push
invariant-loop-push g l =
    Made (at_moment l.fn.client l.moment) l.target (pushes_of (take l.push-index l.pushes)) (g.B.Transport.state l.initial.transport) (g.B.Transport.state l.transport) (auth_state_of l.fn.client) (auth_state_of l.client)
    × (l.digests ≡ l.fn.digests ++ digests_of (pushes_of (take l.push-index l.pushes)))
    × (l.client.settings ≡ l.fn.client.settings)
