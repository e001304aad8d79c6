use Rattle.std.proofs.Common.{◌≡◌, map, take}
use Rattle.live_blobs.proofs.discard.noted.Given as goal

-- the bytes so far
abbrev pub invariant-loop-byte : goal.invariant-loop-byte
invariant-loop-byte l = map (λ byte. byte.0) l.log.items ≡ take l.byte-index l.text
