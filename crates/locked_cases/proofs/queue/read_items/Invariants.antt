use Rattle.std.proofs.Common.{◌≡◌, drop}
use Rattle.serde_json.specs.View.{items_view}
use Rattle.json_tables.specs.Reading.{items_by}
use Rattle.json_tables.proofs.Partial.{with_front}
use Rattle.locked_cases.proofs.queue.read_items.Given as goal

abbrev pub invariant-loop-item : goal.invariant-loop-item
invariant-loop-item g l = items_by g.T.Reads.reading (items_view l.items) ≡ with_front l.list (items_by g.T.Reads.reading (items_view (drop l.item-index l.items)))
