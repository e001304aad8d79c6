use Rattle.std.proofs.Common.{sym, ◌∙◌, arith}
use Rattle.cosign_layers.specs.Constraint.{accepts}
use Rattle.cosign_layers.proofs.Loops.{one_more_passed}
use Rattle.cosign_layers.proofs.satisfying.is_accepted.Goals as goal

pub loop-constraint-preserved : goal.loop-constraint-preserved
loop-constraint-preserved g c =
    one_more_passed (λ x. accepts (λ b. (goal.VerificationConstraint-dyn g (b.vtable, b.value)).accepts b.value) x c.args.layer.now) c.args.constraints.now
    c.loop-constraint.constraint-index c.constraint-item.result (omega arith) c.constraint-item.is (sym c.in_ok-accepted.ensures ∙ c.if-not-accepted.false) c.loop-constraint.invariant
