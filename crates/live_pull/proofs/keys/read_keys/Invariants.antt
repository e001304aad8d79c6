use Rattle.std.proofs.Common.{◌≡◌, drop}
use Rattle.serde_json.specs.View.{items_view}
use Rattle.json_tables.specs.Reading.{items_by}
use Rattle.json_tables.proofs.Partial.{with_front}
use Rattle.live_pull.specs.Settings.{key_of}
use Rattle.live_pull.proofs.keys.read_keys.Given as goal

abbrev pub invariant-loop-item : goal.invariant-loop-item
invariant-loop-item l = items_by key_of (items_view l.items) ≡ with_front l.list (items_by key_of (items_view (drop l.item-index l.items)))
