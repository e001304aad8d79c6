use Rattle.std.proofs.Common.{◌≡◌, drop}
use Rattle.engine_rows.specs.Image.{is_accepted}
use Rattle.engine_rows.proofs.image.is_accepted.Given as goal

-- none of the first ones, so the others decide
abbrev pub invariant-loop-allowed : goal.invariant-loop-allowed
invariant-loop-allowed l = is_accepted (drop l.allowed-index l.accepted) l.kind ≡ is_accepted l.accepted l.kind
