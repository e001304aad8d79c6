use Rattle.std.proofs.Common.{drop}
use Rattle.serde_json.specs.View.{items_view}
use Rattle.json_canon.proofs.Walks.{ItemsLeft, MembersLeft}
use Rattle.json_canon.proofs.walk.+walk.Given as goal

abbrev pub invariant-refusal_of_items-loop-item : goal.invariant-refusal_of_items-loop-item
invariant-refusal_of_items-loop-item l = ItemsLeft (items_view l.items.items) (items_view (drop l.item-index l.item-items))

abbrev pub invariant-refusal_of_members-loop-name : goal.invariant-refusal_of_members-loop-name
invariant-refusal_of_members-loop-name l = MembersLeft l.members.entries l._name-iterator
