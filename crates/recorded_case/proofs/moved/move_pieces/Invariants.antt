use Rattle.std.proofs.Common.{◌≡◌}
use Rattle.serde_json.specs.View.{items_view}
use Rattle.json_tables.specs.Reading.{items_by}
use Rattle.json_tables.proofs.Partial.{with_front}
use Rattle.json_tables.specs.Bytes.{bytes_of}
use Rattle.recorded_case.proofs.moved.move_pieces.Given as goal

abbrev pub invariant-loop-item : goal.invariant-loop-item
invariant-loop-item l = items_by bytes_of (items_view l.fn.items.items) ≡ with_front l.pieces (items_by bytes_of (items_view l.item-iterator.rest.items))
