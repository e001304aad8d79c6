use Rattle.std.proofs.Common.{◌≡◌, take}
use Rattle.index_mirrors.specs.Courses.{AllMirrored, stage, target_of}
use Rattle.index_mirrors.specs.Terms.{meaning_of, source_of}
use Rattle.index_mirrors.proofs.entries.mirror_entries.Given as goal

-- the images so far; the settings of the target's client are unchanged
abbrev pub invariant-loop-entry : goal.invariant-loop-entry
invariant-loop-entry g l =
    AllMirrored (meaning_of g.V.SignatureVerifier.valid g.O.Offline.vouched (λ b. (goal.VerificationConstraint-dyn g (b.vtable, b.value)).accepts b.value) l.terms) (source_of l.terms) (target_of l.fn.client l.terms.moment l.to) (take l.entry-index l.entries)
    (stage (g.A.Transport.state l.initial.transport) (g.B.Transport.state l.initial.target_transport) l.fn.client) (stage (g.A.Transport.state l.transport) (g.B.Transport.state l.target_transport) l.client)
    × (l.client.settings ≡ l.fn.client.settings)
