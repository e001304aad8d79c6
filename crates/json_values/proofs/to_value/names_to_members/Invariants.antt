use Rattle.std.proofs.Common.{◌≡◌, take}
use Rattle.serde_json.specs.View.{members_view}
use Rattle.json_values.specs.Writing.{members_list, empty_object}
use Rattle.json_values.proofs.to_value.names_to_members.Given as goal

abbrev pub invariant-loop-entry : goal.invariant-loop-entry
invariant-loop-entry l = members_view l.members.entries ≡ members_list empty_object (take l.entry-index l.names)
