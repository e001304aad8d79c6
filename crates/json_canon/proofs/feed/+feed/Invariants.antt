use Rattle.std.proofs.Common.{drop}
use Rattle.serde_json.specs.Data.{array, object}
use Rattle.serde_json.specs.View.{items_view, members_view}
use Rattle.json_events.specs.Formatters.{stage_of}
use Rattle.json_events.specs.Spelling.{spelled}
use Rattle.json_canon.proofs.Feeds.{FedUpTo, items_left, members_left}
use Rattle.json_canon.proofs.feed.+feed.Given as goal

abbrev pub invariant-feed_items-loop-item : goal.invariant-feed_items-loop-item
invariant-feed_items-loop-item g l = FedUpTo (spelled (array (items_view l.items.items))) (items_left (items_view (drop l.item-index l.item-items))) (stage_of l.fn.formatter) (stage_of l.formatter) (g.K.Sink.state l.fn.sink) (g.K.Sink.state l.sink)

abbrev pub invariant-feed_members-loop-name : goal.invariant-feed_members-loop-name
invariant-feed_members-loop-name g l = FedUpTo (spelled (object (members_view l.members.entries))) (members_left (members_view l.name-iterator)) (stage_of l.fn.formatter) (stage_of l.formatter) (g.K.Sink.state l.fn.sink) (g.K.Sink.state l.sink)
