use Rattle.std.proofs.Common.{drop}
use Rattle.serde_json.specs.View.{items_view}
use Rattle.json_canon.specs.Plain.{ArePlain}
use Rattle.json_canon.proofs.Plains.{PlainLeft}
use Rattle.json_canon.proofs.plain.+plain.Given as goal

abbrev pub invariant-are_plain-loop-item : goal.invariant-are_plain-loop-item
invariant-are_plain-loop-item l = ArePlain (items_view (drop l.item-index l.item-items)) → ArePlain (items_view l.items.items)

abbrev pub invariant-are_plain_members-loop-name : goal.invariant-are_plain_members-loop-name
invariant-are_plain_members-loop-name l = PlainLeft l.members.entries l.name-iterator
