use Rattle.std.proofs.Common.{◌≡◌}
use Rattle.std.specs.FinMap.{empty}
use Rattle.serde_json.specs.View.{members_view}
use Rattle.json_tables.specs.Reading.{members_by}
use Rattle.recorded_case.proofs.entries.read_map.Given as goal

abbrev pub invariant-loop-name : goal.invariant-loop-name
invariant-loop-name g l = members_by g.T.Entry.entry empty (members_view l.members.entries) ≡ members_by g.T.Entry.entry l.found (members_view l.name-iterator)
