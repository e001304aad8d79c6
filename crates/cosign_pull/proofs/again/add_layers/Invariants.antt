use Rattle.std.proofs.Common.{◌≡◌, drop}
use Rattle.cosign_parts.specs.Trust.{trust_of}
use Rattle.cosign_rows.specs.Part.{appended}
use Rattle.cosign_rows.specs.Again.{again_parts}
use Rattle.cosign_pull.proofs.again.add_layers.Given as goal

-- the rest is appended to what was read so far
abbrev pub invariant-loop-layer : goal.invariant-loop-layer
invariant-loop-layer g l =
    appended l.part (again_parts (trust_of g.V.SignatureVerifier.valid g.O.Offline.vouched l.trusted) l.digest (drop l.layer-index l.layers))
    ≡ appended l.fn.part (again_parts (trust_of g.V.SignatureVerifier.valid g.O.Offline.vouched l.trusted) l.digest l.layers)
