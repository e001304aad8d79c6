use Rattle.std.proofs.Common.{◌≤◌, length, IfSome, option_map}
use Rattle.json.specs.Tree.{HasNumbers, depth}
use Rattle.json.specs.Value.{value_view}
use Rattle.cosign_parts.proofs.Passed.{Passed}
use Rattle.cosign_parts.proofs.statement.last_member.Given as goal

abbrev pub invariant-members : goal.invariant-members
invariant-members l =
    (Passed l.name l.initial.reader l.reader (option_map value_view l.found))
    × IfSome l.found (λ v. HasNumbers (value_view v) × (depth (value_view v) ≤ 126))

abbrev pub decreases-members : goal.decreases-members
decreases-members l = length l.reader
