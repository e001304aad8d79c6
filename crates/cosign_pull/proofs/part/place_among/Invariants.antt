use Rattle.std.proofs.Common.{◌≡◌, ℕ, ◌<◌, false, get_or}
use Rattle.cosign_pull.specs.Part.{is_among}
use Rattle.cosign_pull.proofs.part.place_among.Given as goal

-- none so far
abbrev pub invariant-loop-place : goal.invariant-loop-place
invariant-loop-place l = (k : ℕ) (d : _) → k < l.place → is_among l.digest (get_or l.digests k d) ≡ false
