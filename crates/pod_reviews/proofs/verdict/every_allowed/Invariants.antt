use Rattle.std.proofs.Common.{◌≡◌, drop}
use Rattle.pod_reviews.specs.Verdicts.{all_allowed}
use Rattle.pod_reviews.proofs.verdict.every_allowed.Given as goal

abbrev pub invariant-loop-verdict : goal.invariant-loop-verdict
invariant-loop-verdict l = all_allowed l.verdicts ≡ all_allowed (drop l.verdict-index l.verdicts)
