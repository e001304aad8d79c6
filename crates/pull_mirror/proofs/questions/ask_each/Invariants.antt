use Rattle.std.proofs.Common.{◌≡◌, take}
use Rattle.oci_engine.specs.Kept.{auth_state_of}
use Rattle.oci_engine.specs.Refusals.{at_moment}
use Rattle.pull_mirror.specs.Asked.{WereThere}
use Rattle.pull_mirror.proofs.questions.ask_each.Given as goal

-- the target has the blobs so far; the settings are unchanged
abbrev pub invariant-loop-digest : goal.invariant-loop-digest
invariant-loop-digest g l =
    WereThere (at_moment l.fn.client l.moment) l.target (take l.digest-index l.digests) (g.B.Transport.state l.initial.transport) (g.B.Transport.state l.transport) (auth_state_of l.fn.client) (auth_state_of l.client)
    × (l.client.settings ≡ l.fn.client.settings)
