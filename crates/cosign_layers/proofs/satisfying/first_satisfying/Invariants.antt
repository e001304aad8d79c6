use Rattle.std.proofs.Common.{◌≡◌, ℕ, ◌<◌, false, get_or}
use Rattle.cosign_layers.specs.Satisfying.{satisfies_policy}
use Rattle.cosign_layers.proofs.satisfying.first_satisfying.Given as goal

abbrev pub invariant-loop-place : goal.invariant-loop-place
invariant-loop-place g l =
    (k : ℕ) (d : _) → k < l.place
    → satisfies_policy (g.V.SignatureVerifier.valid l.verifier) l.policy (λ b. (goal.VerificationConstraint-dyn g (b.vtable, b.value)).accepts b.value) (get_or l.layers k d) ≡ false
