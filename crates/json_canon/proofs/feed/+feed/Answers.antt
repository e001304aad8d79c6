use Rattle.std.proofs.Common.{[], ◌∷◌, ◌++◌, Ok, Err, refl, sym, ap, subst, ◌∙◌, ◌+◌, drop, string_bytes}
use Rattle.serde_json.specs.Data.{array, object}
use Rattle.serde_json.specs.View.{view, items_view, members_view}
use Rattle.json_events.specs.Events.{begin_array, begin_array_value, end_array_value, end_array, begin_object, begin_object_value, end_object_value, end_object}
use Rattle.json_events.specs.Formatters.{stage_of}
use Rattle.json_events.specs.Spelling.{spelled}
use Rattle.json_canon.proofs.Feeds.{FedUpTo, fed_one, fed_stop, stop_second, all_three, handed, up_to, up_to_more, up_to_stop, up_to_end, items_left, members_left, item_left, member_left, name_events, value_events}
use Rattle.json_canon.proofs.Walks.{items_step, items_over}
use Rattle.json_canon.proofs.feed.+feed.Goals as goal

pub feed_item-returns-in_err-begin_array_value-clause-accepted : goal.feed_item-returns-in_err-begin_array_value-clause-accepted
feed_item-returns-in_err-begin_array_value-clause-accepted g t c =
    let rest = spelled (view c.args.item.now) ++ end_array_value ∷ [] in
    handed (begin_array_value ∷ rest) _ c.in_err-begin_array_value.field-0.0 _ _ _ _ c.from_residual.ensures.1
    (fed_stop (begin_array_value ∷ []) rest c.in_err-begin_array_value.field-0.0 _ _ _ _ (fed_one begin_array_value (Err c.in_err-begin_array_value.field-0.0) _ _ _ _ c.in_err-begin_array_value.ensures.answers))

pub feed_item-returns-in_err-feed-clause-accepted : goal.feed_item-returns-in_err-feed-clause-accepted
feed_item-returns-in_err-feed-clause-accepted g t c =
    let spells = spelled (view c.args.item.now) in
    handed (begin_array_value ∷ (spells ++ end_array_value ∷ [])) _ c.in_err-feed.field-0.0 _ _ _ _ c.from_residual-in_err-feed.ensures.1
    (stop_second (begin_array_value ∷ []) spells (end_array_value ∷ []) c.in_err-feed.field-0.0 tt _ _ _ _ _ _
    (fed_one begin_array_value (Ok tt) _ _ _ _ c.in_ok-begin_array_value.ensures.answers) c.begin_array_value.ensures.count c.in_err-feed.ensures.accepted)

pub feed_item-returns-clause-accepted : goal.feed_item-returns-clause-accepted
feed_item-returns-clause-accepted g t c =
    all_three (begin_array_value ∷ []) (spelled (view c.args.item.now)) (end_array_value ∷ []) c.end_array_value-done.result tt tt _ _ _ _ _ _ _ _
    (fed_one begin_array_value (Ok tt) _ _ _ _ c.in_ok-begin_array_value.ensures.answers) c.begin_array_value.ensures.count
    c.in_ok-feed.ensures.accepted c.feed.ensures.count
    (fed_one end_array_value c.end_array_value-done.result _ _ _ _ c.end_array_value-done.ensures.answers)

pub feed_member-returns-in_err-begin_object_value-clause-accepted : goal.feed_member-returns-in_err-begin_object_value-clause-accepted
feed_member-returns-in_err-begin_object_value-clause-accepted g t c =
    let rest = spelled (view c.args.member.now) ++ end_object_value ∷ [] in
    handed (begin_object_value ∷ rest) _ c.in_err-begin_object_value.field-0.0 _ _ _ _ c.from_residual.ensures.1
    (fed_stop (begin_object_value ∷ []) rest c.in_err-begin_object_value.field-0.0 _ _ _ _ (fed_one begin_object_value (Err c.in_err-begin_object_value.field-0.0) _ _ _ _ c.in_err-begin_object_value.ensures.answers))

pub feed_member-returns-in_err-feed-clause-accepted : goal.feed_member-returns-in_err-feed-clause-accepted
feed_member-returns-in_err-feed-clause-accepted g t c =
    let spells = spelled (view c.args.member.now) in
    handed (begin_object_value ∷ (spells ++ end_object_value ∷ [])) _ c.in_err-feed.field-0.0 _ _ _ _ c.from_residual-in_err-feed.ensures.1
    (stop_second (begin_object_value ∷ []) spells (end_object_value ∷ []) c.in_err-feed.field-0.0 tt _ _ _ _ _ _
    (fed_one begin_object_value (Ok tt) _ _ _ _ c.in_ok-begin_object_value.ensures.answers) c.begin_object_value.ensures.count c.in_err-feed.ensures.accepted)

pub feed_member-returns-clause-accepted : goal.feed_member-returns-clause-accepted
feed_member-returns-clause-accepted g t c =
    all_three (begin_object_value ∷ []) (spelled (view c.args.member.now)) (end_object_value ∷ []) c.end_object_value-done.result tt tt _ _ _ _ _ _ _ _
    (fed_one begin_object_value (Ok tt) _ _ _ _ c.in_ok-begin_object_value.ensures.answers) c.begin_object_value.ensures.count
    c.in_ok-feed.ensures.accepted c.feed.ensures.count
    (fed_one end_object_value c.end_object_value-done.result _ _ _ _ c.end_object_value-done.ensures.answers)

pub feed_items-returns-in_err-begin_array-clause-accepted : goal.feed_items-returns-in_err-begin_array-clause-accepted
feed_items-returns-in_err-begin_array-clause-accepted g t c =
    let rest = items_left (items_view c.args.items.now.items) in
    handed (begin_array ∷ rest) _ c.in_err-begin_array.field-0.0 _ _ _ _ c.from_residual.ensures.1
    (fed_stop (begin_array ∷ []) rest c.in_err-begin_array.field-0.0 _ _ _ _ (fed_one begin_array (Err c.in_err-begin_array.field-0.0) _ _ _ _ c.in_err-begin_array.ensures.answers))

pub feed_items-loop-item-init : goal.feed_items-loop-item-init
feed_items-loop-item-init g t c =
    let all = items_view c.args.items.now.items in
    subst (λ is. FedUpTo (begin_array ∷ items_left all) (items_left (items_view is)) (stage_of c.args.formatter.now) (stage_of c.begin_array.new.self) (g.K.Sink.state c.args.sink.now) (g.K.Sink.state c.begin_array.new.sink)) (sym c.deref-item-items.ensures.value)
    (up_to (begin_array ∷ []) (items_left all) _ _ _ _ (fed_one begin_array (Ok tt) _ _ _ _ c.in_ok-begin_array.ensures.answers) c.begin_array.ensures.count)

pub feed_items-returns-in_err-feed_item-clause-accepted : goal.feed_items-returns-in_err-feed_item-clause-accepted
feed_items-returns-in_err-feed_item-clause-accepted g t c =
    let x = view c.item-item.result in
    let rest = items_view (drop (c.loop-item.item-index + 1) c.deref-item-items.result.now) in
    let step = ap items_left (items_step c.deref-item-items.result.now c.loop-item.item-index c.item-item.result c.loop-item-test.true c.item-item.is) ∙ item_left x rest in
    handed (spelled (array (items_view c.args.items.now.items))) _ c.in_err-feed_item.field-0.0 _ _ _ _ c.from_residual-in_err-feed_item.ensures.1
    (up_to_stop _ (begin_array_value ∷ (spelled x ++ end_array_value ∷ [])) (items_left rest) _ c.in_err-feed_item.field-0.0 _ _ _ _ _ _ step c.loop-item.invariant c.in_err-feed_item.ensures.accepted)

pub feed_items-loop-item-preserved : goal.feed_items-loop-item-preserved
feed_items-loop-item-preserved g t c =
    let x = view c.item-item.result in
    let rest = items_view (drop (c.loop-item.item-index + 1) c.deref-item-items.result.now) in
    let step = ap items_left (items_step c.deref-item-items.result.now c.loop-item.item-index c.item-item.result c.loop-item-test.true c.item-item.is) ∙ item_left x rest in
    up_to_more _ (begin_array_value ∷ (spelled x ++ end_array_value ∷ [])) (items_left rest) _ _ _ _ _ _ _ step c.loop-item.invariant c.in_ok-feed_item.ensures.accepted c.feed_item.ensures.count

pub feed_items-returns-clause-accepted : goal.feed_items-returns-clause-accepted
feed_items-returns-clause-accepted g t c =
    let over = items_over c.deref-item-items.result.now c.loop-item.item-index c.loop-item-test.false in
    up_to_end (spelled (array (items_view c.args.items.now.items))) (end_array ∷ []) c.end_array-done.result _ _ _ _ _ _
    (subst (λ ds. FedUpTo (spelled (array (items_view c.args.items.now.items))) (items_left ds) (stage_of c.args.formatter.now) (stage_of c.loop-item.formatter) (g.K.Sink.state c.args.sink.now) (g.K.Sink.state c.loop-item.sink)) over c.loop-item.invariant)
    (fed_one end_array c.end_array-done.result _ _ _ _ c.end_array-done.ensures.answers)

pub feed_members-returns-in_err-begin_object-clause-accepted : goal.feed_members-returns-in_err-begin_object-clause-accepted
feed_members-returns-in_err-begin_object-clause-accepted g t c =
    let rest = members_left (members_view c.args.members.now.entries) in
    handed (begin_object ∷ rest) _ c.in_err-begin_object.field-0.0 _ _ _ _ c.from_residual.ensures.1
    (fed_stop (begin_object ∷ []) rest c.in_err-begin_object.field-0.0 _ _ _ _ (fed_one begin_object (Err c.in_err-begin_object.field-0.0) _ _ _ _ c.in_err-begin_object.ensures.answers))

pub feed_members-loop-name-init : goal.feed_members-loop-name-init
feed_members-loop-name-init g t c =
    let all = members_view c.args.members.now.entries in
    subst (λ es. FedUpTo (begin_object ∷ members_left all) (members_left (members_view es)) (stage_of c.args.formatter.now) (stage_of c.begin_object.new.self) (g.K.Sink.state c.args.sink.now) (g.K.Sink.state c.begin_object.new.sink))
    (sym (c.into_iter-name-iterator.ensures.into_iter_gives ∙ c.iter-name-items.ensures.rest))
    (up_to (begin_object ∷ []) (members_left all) _ _ _ _ (fed_one begin_object (Ok tt) _ _ _ _ c.in_ok-begin_object.ensures.answers) c.begin_object.ensures.count)

pub feed_members-returns-in_err-feed_name-clause-accepted : goal.feed_members-returns-in_err-feed_name-clause-accepted
feed_members-returns-in_err-feed_name-clause-accepted g t c =
    let name = c.as_str.result.now in
    let value = view c.in-Some.member.now in
    let rest = members_view c.next.new.self in
    let step = ap (λ es. members_left (members_view es)) c.in-Some.ensures.steps ∙ member_left (string_bytes c.in-Some.name.now) value rest ∙ ap (λ n. name_events n ++ (value_events value ++ members_left rest)) (sym c.as_str.ensures.value) in
    handed (spelled (object (members_view c.args.members.now.entries))) _ c.in_err-feed_name.field-0.0 _ _ _ _ c.from_residual-in_err-feed_name.ensures.1
    (up_to_stop _ (name_events name) (value_events value ++ members_left rest) _ c.in_err-feed_name.field-0.0 _ _ _ _ _ _ step c.loop-name.invariant c.in_err-feed_name.ensures.accepted)

pub feed_members-returns-in_err-feed_member-clause-accepted : goal.feed_members-returns-in_err-feed_member-clause-accepted
feed_members-returns-in_err-feed_member-clause-accepted g t c =
    let name = c.as_str.result.now in
    let value = view c.in-Some.member.now in
    let rest = members_view c.next.new.self in
    let step = ap (λ es. members_left (members_view es)) c.in-Some.ensures.steps ∙ member_left (string_bytes c.in-Some.name.now) value rest ∙ ap (λ n. name_events n ++ (value_events value ++ members_left rest)) (sym c.as_str.ensures.value) in
    handed (spelled (object (members_view c.args.members.now.entries))) _ c.in_err-feed_member.field-0.0 _ _ _ _ c.from_residual-in_err-feed_member.ensures.1
    (up_to_stop _ (value_events value) (members_left rest) (value_events value ++ members_left rest) c.in_err-feed_member.field-0.0 _ _ _ _ _ _ refl
    (up_to_more _ (name_events name) (value_events value ++ members_left rest) _ _ _ _ _ _ _ step c.loop-name.invariant c.in_ok-feed_name.ensures.accepted c.feed_name.ensures.count) c.in_err-feed_member.ensures.accepted)

pub feed_members-loop-name-preserved : goal.feed_members-loop-name-preserved
feed_members-loop-name-preserved g t c =
    let name = c.as_str.result.now in
    let value = view c.in-Some.member.now in
    let rest = members_view c.next.new.self in
    let step = ap (λ es. members_left (members_view es)) c.in-Some.ensures.steps ∙ member_left (string_bytes c.in-Some.name.now) value rest ∙ ap (λ n. name_events n ++ (value_events value ++ members_left rest)) (sym c.as_str.ensures.value) in
    up_to_more _ (value_events value) (members_left rest) (value_events value ++ members_left rest) _ _ _ _ _ _ refl
    (up_to_more _ (name_events name) (value_events value ++ members_left rest) _ _ _ _ _ _ _ step c.loop-name.invariant c.in_ok-feed_name.ensures.accepted c.feed_name.ensures.count) c.in_ok-feed_member.ensures.accepted c.feed_member.ensures.count

pub feed_members-returns-clause-accepted : goal.feed_members-returns-clause-accepted
feed_members-returns-clause-accepted g t c =
    up_to_end (spelled (object (members_view c.args.members.now.entries))) (end_object ∷ []) c.end_object-done.result _ _ _ _ _ _
    (subst (λ es. FedUpTo (spelled (object (members_view c.args.members.now.entries))) (members_left (members_view es)) (stage_of c.args.formatter.now) (stage_of c.loop-name.formatter) (g.K.Sink.state c.args.sink.now) (g.K.Sink.state c.loop-name.sink)) c.in-None.ensures.steps.0 c.loop-name.invariant)
    (fed_one end_object c.end_object-done.result _ _ _ _ c.end_object-done.ensures.answers)
