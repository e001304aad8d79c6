use Rattle.std.proofs.Common.{◌≡◌}
use Rattle.std.specs.FinMap.{empty}
use Rattle.serde_json.specs.View.{members_view}
use Rattle.json_tables.specs.Reading.{members_by}
use Rattle.live_pull.specs.Settings.{key_of}
use Rattle.live_pull.proofs.keys.read_log_keys.Given as goal

abbrev pub invariant-loop-name : goal.invariant-loop-name
invariant-loop-name l = members_by key_of empty (members_view l.members.entries) ≡ members_by key_of l.found (members_view l.name-iterator)
