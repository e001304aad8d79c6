use Rattle.std.proofs.Common.{◌≡◌, drop}
use Rattle.cosign_parts.specs.Trust.{trust_of}
use Rattle.cosign_rows.specs.Part.{appended, descriptors_part}
use Rattle.cosign_pull.proofs.part.descriptors_part.Given as goal

-- the rest is appended to what was read so far
abbrev pub invariant-loop-descriptor : goal.invariant-loop-descriptor
invariant-loop-descriptor g l =
    appended l.part (descriptors_part (trust_of g.V.SignatureVerifier.valid g.O.Offline.vouched l.trusted) l.digest l.layers (drop l.descriptor-index l.descriptors))
    ≡ descriptors_part (trust_of g.V.SignatureVerifier.valid g.O.Offline.vouched l.trusted) l.digest l.layers l.descriptors
