use Rattle.std.proofs.Common.{◌≡◌, drop}
use Rattle.oci_auth.specs.Bearer.{first_bearer}
use Rattle.oci_auth.proofs.bearer.first_bearer.Given as goal

abbrev pub invariant-loop-challenge : goal.invariant-loop-challenge
invariant-loop-challenge l = first_bearer l.challenges ≡ first_bearer (drop l.challenge-index l.challenges)
