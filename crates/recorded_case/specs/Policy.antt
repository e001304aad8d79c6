-- The policy of a case, and whom it trusts.
use Rattle.std.specs.Prelude.{List, map, false}
use Rattle.cosign_parts.specs.Judge.{vouched_in}
use Rattle.cosign_layers.specs.Satisfying.{PolicyContext, policy_context}
use Rattle.cosign_parts.specs.Trust.{Trust, trust}
use Rattle.cosign_parts.specs.Verifier.{valid_in}
use Rattle.cosign_layers.specs.declared.constraint.Constraint.{Constraint}
use Rattle.cosign_layers.specs.declared.constraint.Constraint.TheVariants as constraint
use Rattle.cosign_layers.specs.declared.policy.PullPolicy.{PullPolicy}
use Rattle.recorded_case.specs.declared.case.Case.{Case}
use Rattle.recorded_case.specs.declared.constraint.WrittenConstraint.{WrittenConstraint}
use Rattle.recorded_case.specs.declared.constraint.WrittenConstraint.TheVariants as written

-- the constraint that is written in the case
abbrev pub constraint_by : {V : Type 0} {H : V → Type 0} → WrittenConstraint → Constraint V H
constraint_by (written.Annotations asked) = constraint.Annotations asked
constraint_by (written.Email asked) = constraint.Email asked
constraint_by (written.Url asked) = constraint.Url asked
constraint_by (written.Statements types) = constraint.Statements types

-- these constraints, in order
abbrev pub constraints_by : {V : Type 0} {H : V → Type 0} → List WrittenConstraint → List (Constraint V H)
constraints_by written = map constraint_by written

-- the policy of a case; it has no box of a caller
abbrev pub policy_of : Case → PullPolicy ⊥ (λ v. ⊥)
policy_of case = record { keys = case.keys; constraints = constraints_by case.constraints }

-- whom a case trusts: the signatures that are valid, the vouched certificates, and the keys of logs
abbrev pub trust_of : Case → Trust
trust_of case = trust (valid_in (record { rows = case.signatures })) (vouched_in case.vouched) case.log_keys

abbrev pub meaning_of : Case → PolicyContext ⊥ (λ v. ⊥)
meaning_of case = policy_context (policy_of case) (λ box layer. false) (trust_of case)
