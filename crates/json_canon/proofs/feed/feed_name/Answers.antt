use Rattle.std.proofs.Common.{[], ◌∷◌, Ok, Err}
use Rattle.json_events.specs.Events.{begin_object_key, write_string, end_object_key}
use Rattle.json_canon.proofs.Feeds.{fed_one, stop_second, all_three, handed}
use Rattle.json_canon.proofs.feed.feed_name.Goals as goal

pub returns-in_err-write_string-clause-accepted : goal.returns-in_err-write_string-clause-accepted
returns-in_err-write_string-clause-accepted g c =
    let name = write_string c.args.name.now in
    handed (begin_object_key ∷ name ∷ end_object_key ∷ []) _ c.in_err-write_string.field-0.0 _ _ _ _ c.from_residual-in_err-write_string.ensures.1
    (stop_second (begin_object_key ∷ []) (name ∷ []) (end_object_key ∷ []) c.in_err-write_string.field-0.0 tt _ _ _ _ _ _
    (fed_one begin_object_key (Ok tt) _ _ _ _ c.in_ok-begin_object_key.ensures.answers) c.begin_object_key.ensures.count
    (fed_one name (Err c.in_err-write_string.field-0.0) _ _ _ _ c.in_err-write_string.ensures.answers))

pub returns-clause-accepted : goal.returns-clause-accepted
returns-clause-accepted g c =
    let name = write_string c.args.name.now in
    all_three (begin_object_key ∷ []) (name ∷ []) (end_object_key ∷ []) c.end_object_key-done.result tt tt _ _ _ _ _ _ _ _
    (fed_one begin_object_key (Ok tt) _ _ _ _ c.in_ok-begin_object_key.ensures.answers) c.begin_object_key.ensures.count
    (fed_one name (Ok tt) _ _ _ _ c.in_ok-write_string.ensures.answers) c.write_string.ensures.count
    (fed_one end_object_key c.end_object_key-done.result _ _ _ _ c.end_object_key-done.ensures.answers)
