use Rattle.std.proofs.Common.{◌≡◌}
use Rattle.serde_json.specs.View.{items_view}
use Rattle.json_tables.specs.Reading.{items_by}
use Rattle.json_tables.proofs.Partial.{with_front}
use Rattle.recorded_case.specs.Answer.{answer_of}
use Rattle.recorded_case.proofs.moved.take_answers.Given as goal

abbrev pub invariant-loop-item : goal.invariant-loop-item
invariant-loop-item l = items_by answer_of (items_view l.fn.items.items) ≡ with_front l.answers (items_by answer_of (items_view l.item-iterator.rest.items))
