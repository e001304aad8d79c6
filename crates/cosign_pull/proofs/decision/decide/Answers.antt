use Rattle.std.proofs.Common.{refl}
use Rattle.cosign_rows.specs.Verified.{is_unconstrained}
use Rattle.cosign_rows.proofs.Exits.{and_then, refused, wanting, passed, said_whole, says_same, empty_policy, not_empty}
use Rattle.cosign_rows.specs.Rows.{decided}
use Rattle.cosign_pull.proofs.decision.decide.Goals as goal

pub returns-in_err-constrained-clause-run : goal.returns-in_err-constrained-clause-run
unfolding decided
returns-in_err-constrained-clause-run g c = λ s. refused _ (said_whole _ (says_same _ _ c.in_err-constrained.ensures)) c.from_residual.ensures.1

pub returns-in_err-constrained-clause-unconstrained : goal.returns-in_err-constrained-clause-unconstrained
returns-in_err-constrained-clause-unconstrained g c = λ none. (empty_policy (is_unconstrained c.args.policy.now) _ c.in_err-constrained.ensures none c.from_residual.ensures.1, refl)

pub returns-in_err-again-clause-run : goal.returns-in_err-again-clause-run
unfolding decided
returns-in_err-again-clause-run g c = λ s. and_then _ (said_whole _ (says_same _ _ c.in_ok-constrained.ensures)) (wanting _ refl c.from_residual-in_err-again.ensures.1)

pub returns-in_err-again-clause-unconstrained : goal.returns-in_err-again-clause-unconstrained
returns-in_err-again-clause-unconstrained g c = λ none. not_empty (is_unconstrained c.args.policy.now) _ c.in_ok-constrained.ensures none

pub returns-in_err-documents-clause-run : goal.returns-in_err-documents-clause-run
unfolding decided
returns-in_err-documents-clause-run g c = λ s. and_then _ (said_whole _ (says_same _ _ c.in_ok-constrained.ensures)) (passed (rw c.in_ok-again.ensures at (c.in_err-documents.ensures s)) c.from_residual-in_err-documents.ensures.1)

pub returns-in_err-documents-clause-unconstrained : goal.returns-in_err-documents-clause-unconstrained
returns-in_err-documents-clause-unconstrained g c = λ none. not_empty (is_unconstrained c.args.policy.now) _ c.in_ok-constrained.ensures none

pub returns-clause-run : goal.returns-clause-run
unfolding decided
returns-clause-run g c = λ s. and_then _ (said_whole _ (says_same _ _ c.in_ok-constrained.ensures)) (rw c.in_ok-again.ensures at (c.in_ok-documents.ensures s))

pub returns-clause-unconstrained : goal.returns-clause-unconstrained
returns-clause-unconstrained g c = λ none. not_empty (is_unconstrained c.args.policy.now) _ c.in_ok-constrained.ensures none
