use Rattle.std.proofs.Common.{refl}
use Rattle.oci_names.specs.Reference.{reads_back}
use Rattle.cosign_rows.specs.Verified.{is_unconstrained}
use Rattle.cosign_rows.proofs.Exits.{and_then, refused, passed, said_whole, says_same, part_answered, part_refused, empty_policy, not_empty, readable_not}
use Rattle.cosign_rows.specs.Rows.{collected}
use Rattle.cosign_pull.proofs.collection.collect.Goals as goal

pub returns-in_err-constrained-clause-run : goal.returns-in_err-constrained-clause-run
unfolding collected
returns-in_err-constrained-clause-run g c = λ s. refused _ (said_whole _ (says_same _ _ c.in_err-constrained.ensures)) c.from_residual.ensures.1

pub returns-in_err-constrained-clause-unconstrained : goal.returns-in_err-constrained-clause-unconstrained
returns-in_err-constrained-clause-unconstrained g c = λ none. (empty_policy (is_unconstrained c.args.policy.now) _ c.in_err-constrained.ensures none c.from_residual.ensures.1, refl)

pub returns-in_err-readable-clause-run : goal.returns-in_err-readable-clause-run
unfolding collected
returns-in_err-readable-clause-run g c = λ s. and_then _ (said_whole _ (says_same _ _ c.in_ok-constrained.ensures)) (refused _ (said_whole _ c.in_err-readable.ensures) c.from_residual-in_err-readable.ensures.1)

pub returns-in_err-readable-clause-unconstrained : goal.returns-in_err-readable-clause-unconstrained
returns-in_err-readable-clause-unconstrained g c = λ none. not_empty (is_unconstrained c.args.policy.now) _ c.in_ok-constrained.ensures none

pub returns-in_err-found-clause-run : goal.returns-in_err-found-clause-run
unfolding collected
returns-in_err-found-clause-run g c = λ s. and_then _ (said_whole _ (says_same _ _ c.in_ok-constrained.ensures)) (and_then _ (said_whole _ c.in_ok-readable.ensures) (passed (part_refused (c.in_err-found.ensures s)) c.from_residual-in_err-found.ensures.1))

pub returns-in_err-found-clause-unconstrained : goal.returns-in_err-found-clause-unconstrained
returns-in_err-found-clause-unconstrained g c = λ none. not_empty (is_unconstrained c.args.policy.now) _ c.in_ok-constrained.ensures none

pub returns-in_err-found-clause-unread : goal.returns-in_err-found-clause-unread
returns-in_err-found-clause-unread g c = λ unread. readable_not c.args.asked.now.image.now (reads_back c.args.asked.now.image.now) _ c.in_ok-readable.ensures unread

pub returns-clause-run : goal.returns-clause-run
unfolding collected
returns-clause-run g c = λ s. and_then _ (said_whole _ (says_same _ _ c.in_ok-constrained.ensures)) (and_then _ (said_whole _ c.in_ok-readable.ensures) (part_answered (c.in_ok-found.ensures s)))

pub returns-clause-unconstrained : goal.returns-clause-unconstrained
returns-clause-unconstrained g c = λ none. not_empty (is_unconstrained c.args.policy.now) _ c.in_ok-constrained.ensures none

pub returns-clause-unread : goal.returns-clause-unread
returns-clause-unread g c = λ unread. readable_not c.args.asked.now.image.now (reads_back c.args.asked.now.image.now) _ c.in_ok-readable.ensures unread
