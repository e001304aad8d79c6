use Rattle.cosign_parts.specs.Judge.{vouched_in}
use Rattle.cosign_layers.specs.Satisfying.{policy_context}
use Rattle.cosign_parts.specs.Trust.{trust}
use Rattle.cosign_parts.specs.Verifier.{valid_in}
use Rattle.locked_cases.proofs.ChainHolds.{checked_holds, not_built}
use Rattle.locked_cases.proofs.holds.holds_under.Goals as goal

pub returns-in_default : goal.returns-in_default
returns-in_default g c =
    not_built (policy_context c.args.terms.now.policy (λ b. (goal.VerificationConstraint-dyn g (b.vtable, b.value)).accepts b.value) (trust (valid_in c.args.terms.now.verifier) (vouched_in c.args.terms.now.judge) c.args.terms.now.log_keys))
    c.args.terms.now.image c.args.terms.now.accepted c.args.terms.now.platform c.args.chain.now c.in_ok-found.found c.in_default.is c.in_ok-found.ensures

pub returns : goal.returns
returns g c =
    checked_holds (policy_context c.args.terms.now.policy (λ b. (goal.VerificationConstraint-dyn g (b.vtable, b.value)).accepts b.value) (trust (valid_in c.args.terms.now.verifier) (vouched_in c.args.terms.now.judge) c.args.terms.now.log_keys))
    c.args.terms.now.image c.args.terms.now.accepted c.as_slice.result.now c.args.terms.now.platform _ c.args.chain.now c.in_ok-found.found c.in-Some.found c.check_chain.result
    c.as_slice.ensures c.promise_of-promise.ensures c.in-Some.is c.in_ok-found.ensures c.check_chain.ensures
