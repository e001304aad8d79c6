use Rattle.std.proofs.Common.{◌≡◌}
use Rattle.std.specs.FinMap.{empty}
use Rattle.serde_json.specs.View.{members_view}
use Rattle.json_tables.specs.Reading.{members_by}
use Rattle.json_tables.proofs.maps.read_members.Given as goal

abbrev pub invariant-loop-name : goal.invariant-loop-name
invariant-loop-name g l = members_by g.V.Reads.reading empty (members_view l.members.entries) ≡ members_by g.V.Reads.reading l.found (members_view l.name-iterator)
