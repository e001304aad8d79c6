use Rattle.std.proofs.Common.{◌≡◌, drop}
use Rattle.engine_terms.specs.Settings.{is_listed}
use Rattle.engine_terms.proofs.settings.is_listed.Given as goal

-- not among the first ones, so the others decide
abbrev pub invariant-loop-listed : goal.invariant-loop-listed
invariant-loop-listed l = is_listed l.registry (drop l.listed-index l.registries) ≡ is_listed l.registry l.registries
