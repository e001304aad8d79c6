use Rattle.std.proofs.Common.{◌≡◌}
use Rattle.std.specs.FinMap.{empty}
use Rattle.serde_json.specs.View.{members_view}
use Rattle.json_tables.specs.Reading.{members_by}
use Rattle.json_tables.specs.Objects.{an_object}
use Rattle.json_tables.proofs.sets.read_names.Given as goal

abbrev pub invariant-loop-name : goal.invariant-loop-name
invariant-loop-name l = members_by an_object empty (members_view l.members.entries) ≡ members_by an_object l.found (members_view l.name-iterator)
