use Rattle.std.proofs.Common.{◌≡◌, drop}
use Rattle.serde_json.specs.View.{items_view, members_view}
use Rattle.cosign_chain.specs.Same.{same_items, same_members}
use Rattle.cosign_chain.proofs.same.+same.Given as goal

abbrev pub invariant-same_items-loop-item : goal.invariant-same_items-loop-item
invariant-same_items-loop-item l =
    (goal.iterator-same_items-loop-item).can_next l.others ×
    (goal.iterator-same_items-loop-item).is_finite l.others ×
    (same_items (items_view l.a.items) (items_view l.b.items) ≡ same_items (items_view (drop l.item-index l.item-items)) (items_view l.others.rest.now))

abbrev pub invariant-same_members-loop-name : goal.invariant-same_members-loop-name
invariant-same_members-loop-name l =
    (goal.iterator-same_members-loop-name).can_next l.name-iterator ×
    (goal.iterator-same_members-loop-name).is_finite l.name-iterator ×
    (same_members (members_view l.a.entries) (members_view l.b.entries) ≡ same_members (members_view l.name-iterator) (members_view l.others))
