use Rattle.std.proofs.Common.{ap, ◌∙◌, arith}
use Rattle.serde_json.specs.Data.{put}
use Rattle.serde_json.specs.View.{view, members_view}
use Rattle.json_values.proofs.Fronts.{members_written}
use Rattle.json_values.proofs.to_value.names_to_members.Goals as goal

pub loop-entry-preserved : goal.loop-entry-preserved
loop-entry-preserved c =
    c.in_ok-put.ensures.ok
    ∙ ap (λ k. put k (view c.no_members-value.result) (members_view c.loop-entry.members.entries)) c.as_str.ensures
    ∙ ap (put c.entry-item.result.0 (view c.no_members-value.result)) c.loop-entry.invariant
    ∙ members_written _ c.args.names.now c.loop-entry.entry-index c.entry-item.result _ c.requires (omega arith) c.entry-item.is c.no_members-value.ensures
