use Rattle.std.proofs.Common.{◌≡◌, ℕ, ◌<◌, false, get_or}
use Rattle.cosign_layers.proofs.satisfying.some_key_signs.Given as goal

abbrev pub invariant-loop-key : goal.invariant-loop-key
invariant-loop-key g l = (k : ℕ) (d : _) → k < l.key-index → g.V.SignatureVerifier.valid l.verifier (get_or l.keys k d) l.message l.signature ≡ false
