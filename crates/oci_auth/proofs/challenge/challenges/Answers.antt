use Rattle.std.proofs.Common.{sym, subst, ◌∙◌}
use Rattle.oci_auth.specs.Words.{AreChallenges}
use Rattle.oci_auth.proofs.HeaderChallenges.{are_challenges, same_challenges}
use Rattle.oci_auth.proofs.challenge.challenges.Goals as goal

pub returns-clause-grammar : goal.returns-clause-grammar
returns-clause-grammar c = subst (AreChallenges c.args.text.now) (sym c.in_ok-found.ensures) (are_challenges c.args.text.now)

pub returns-clause-only : goal.returns-clause-only
returns-clause-only c others are = same_challenges c.args.text.now others _ are (are_challenges c.args.text.now) ∙ sym c.in_ok-found.ensures
