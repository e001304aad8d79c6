use Rattle.std.proofs.Common.{◌≡◌, ℕ, ◌<◌, true, get_or}
use Rattle.cosign_layers.specs.Constraint.{accepts}
use Rattle.cosign_layers.proofs.satisfying.is_accepted.Given as goal

abbrev pub invariant-loop-constraint : goal.invariant-loop-constraint
invariant-loop-constraint g l =
    (k : ℕ) (d : _) → k < l.constraint-index
    → accepts (λ b. (goal.VerificationConstraint-dyn g (b.vtable, b.value)).accepts b.value) (get_or l.constraints k d) l.layer ≡ true
