use Rattle.std.proofs.Common.{◌≡◌, filter, take}
use Rattle.engine_answers.specs.Referrers.{is_of_type}
use Rattle.engine_answers.proofs.referrers.of_type.Given as goal

-- the entries of this type among the first ones
abbrev pub invariant-loop-entry : goal.invariant-loop-entry
invariant-loop-entry l = l.kept ≡ filter (is_of_type l.artifact_type) (take l.entry-index l.entries)
