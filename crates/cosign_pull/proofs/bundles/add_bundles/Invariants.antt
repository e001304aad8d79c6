use Rattle.std.proofs.Common.{◌≡◌, drop}
use Rattle.cosign_parts.specs.Trust.{trust_of}
use Rattle.cosign_rows.specs.Part.{appended, bundles_part}
use Rattle.cosign_pull.proofs.bundles.add_bundles.Given as goal

-- the rest is appended to what was read so far
abbrev pub invariant-loop-layer : goal.invariant-loop-layer
invariant-loop-layer g l =
    appended l.part (bundles_part (trust_of g.V.SignatureVerifier.valid g.O.Offline.vouched l.trusted) l.digest (drop l.layer-index l.layers))
    ≡ appended l.fn.part (bundles_part (trust_of g.V.SignatureVerifier.valid g.O.Offline.vouched l.trusted) l.digest l.layers)
