use Rattle.std.proofs.Common.{◌≤◌}
use Rattle.json_tables.proofs.member_names.front.Given as goal

abbrev pub invariant-loop-end : goal.invariant-loop-end
invariant-loop-end l = l.end ≤ 65536

abbrev pub decreases-loop-end : goal.decreases-loop-end
decreases-loop-end l = l.end
