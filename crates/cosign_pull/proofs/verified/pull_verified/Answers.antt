use Rattle.std.proofs.Common.{refl}
use Rattle.oci_names.specs.Reference.{reads_back}
use Rattle.cosign_rows.specs.Tails.{after_search}
use Rattle.cosign_rows.specs.Verified.{is_unconstrained, verified}
use Rattle.cosign_rows.proofs.Exits.{and_then, refused, wanting, passed, said_whole, says_same, part_answered, part_refused, empty_policy, not_empty, readable_not}
use Rattle.cosign_pull.proofs.verified.pull_verified.Goals as goal

pub returns-in_err-constrained-clause-run : goal.returns-in_err-constrained-clause-run
unfolding verified
returns-in_err-constrained-clause-run g c = λ s. refused _ (said_whole _ (says_same _ _ c.in_err-constrained.ensures)) c.from_residual.ensures.1

pub returns-in_err-constrained-clause-unconstrained : goal.returns-in_err-constrained-clause-unconstrained
returns-in_err-constrained-clause-unconstrained g c = λ none. (empty_policy (is_unconstrained c.args.terms.now.policy.now) _ c.in_err-constrained.ensures none c.from_residual.ensures.1, refl)

pub returns-in_err-auth-clause-run : goal.returns-in_err-auth-clause-run
unfolding verified
returns-in_err-auth-clause-run g c = λ s. and_then _ (said_whole _ (says_same _ _ c.in_ok-constrained.ensures)) (wanting _ refl c.from_residual-in_err-auth.ensures.1)

pub returns-in_err-auth-clause-unconstrained : goal.returns-in_err-auth-clause-unconstrained
returns-in_err-auth-clause-unconstrained g c = λ none. not_empty (is_unconstrained c.args.terms.now.policy.now) _ c.in_ok-constrained.ensures none

pub returns-in_err-readable-clause-run : goal.returns-in_err-readable-clause-run
unfolding verified
returns-in_err-readable-clause-run g c = λ s. and_then _ (said_whole _ (says_same _ _ c.in_ok-constrained.ensures)) (refused _ (said_whole _ c.in_err-readable.ensures) c.from_residual-in_err-readable.ensures.1)

pub returns-in_err-readable-clause-unconstrained : goal.returns-in_err-readable-clause-unconstrained
returns-in_err-readable-clause-unconstrained g c = λ none. not_empty (is_unconstrained c.args.terms.now.policy.now) _ c.in_ok-constrained.ensures none

pub returns-in_err-found-clause-run : goal.returns-in_err-found-clause-run
unfolding verified
returns-in_err-found-clause-run g c = λ s. and_then _ (said_whole _ (says_same _ _ c.in_ok-constrained.ensures)) (and_then _ (said_whole _ c.in_ok-readable.ensures) (refused _ (part_refused (rw c.in_ok-auth.ensures at (c.in_err-found.ensures s))) c.from_residual-in_err-found.ensures.1))

pub returns-in_err-found-clause-unconstrained : goal.returns-in_err-found-clause-unconstrained
returns-in_err-found-clause-unconstrained g c = λ none. not_empty (is_unconstrained c.args.terms.now.policy.now) _ c.in_ok-constrained.ensures none

pub returns-in_err-found-clause-unread : goal.returns-in_err-found-clause-unread
returns-in_err-found-clause-unread g c = λ unread. readable_not c.args.image.now (reads_back c.args.image.now) _ c.in_ok-readable.ensures unread

pub returns-in_err-image-clause-run : goal.returns-in_err-image-clause-run
unfolding verified after_search
returns-in_err-image-clause-run g c = λ s. and_then _ (said_whole _ (says_same _ _ c.in_ok-constrained.ensures)) (and_then _ (said_whole _ c.in_ok-readable.ensures) (and_then _ (part_answered (rw c.in_ok-auth.ensures at (c.in_ok-found.ensures s))) (passed (rw c.in_ok-auth.ensures at (c.in_err-image.ensures s)) c.from_residual-in_err-image.ensures.1)))

pub returns-in_err-image-clause-unconstrained : goal.returns-in_err-image-clause-unconstrained
returns-in_err-image-clause-unconstrained g c = λ none. not_empty (is_unconstrained c.args.terms.now.policy.now) _ c.in_ok-constrained.ensures none

pub returns-in_err-image-clause-unread : goal.returns-in_err-image-clause-unread
returns-in_err-image-clause-unread g c = λ unread. readable_not c.args.image.now (reads_back c.args.image.now) _ c.in_ok-readable.ensures unread

pub returns-clause-run : goal.returns-clause-run
unfolding verified after_search
returns-clause-run g c = λ s. and_then _ (said_whole _ (says_same _ _ c.in_ok-constrained.ensures)) (and_then _ (said_whole _ c.in_ok-readable.ensures) (and_then _ (part_answered (rw c.in_ok-auth.ensures at (c.in_ok-found.ensures s))) (rw c.in_ok-auth.ensures at (c.in_ok-image.ensures s))))

pub returns-clause-unconstrained : goal.returns-clause-unconstrained
returns-clause-unconstrained g c = λ none. not_empty (is_unconstrained c.args.terms.now.policy.now) _ c.in_ok-constrained.ensures none

pub returns-clause-unread : goal.returns-clause-unread
returns-clause-unread g c = λ unread. readable_not c.args.image.now (reads_back c.args.image.now) _ c.in_ok-readable.ensures unread
