use Rattle.std.proofs.Common.{ap, ◌∙◌, arith, map}
use Rattle.serde_json.specs.View.{view}
use Rattle.json_values.proofs.Fronts.{values_written}
use Rattle.json_values.proofs.to_value.items_to_values.Goals as goal

pub loop-item-preserved : goal.loop-item-preserved
loop-item-preserved g c =
    ap (map view) c.in_ok-push.ensures.items
    ∙ values_written _ _ _ c.args.items.now c.loop-item.item-index c.item-item.result (omega arith) c.item-item.is c.loop-item.invariant c.in_ok-to_value.ensures
