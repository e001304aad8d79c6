use Rattle.std.proofs.Common.{refl, rules, sym}
use Rattle.live_check.proofs.EntryLayers.{layer_added, no_layer_added}
use Rattle.live_check.proofs.layers.add_layer.Goals as goal

pub returns-in-Ok : goal.returns-in-Ok
returns-in-Ok c = layer_added c.args.log_keys.now c.args.entry.now c.in_ok-content.content c.in-Ok.layer _ _ (search rules) c.in-Ok.ensures c.in_ok-push-in-Ok.ensures.ok

pub returns : goal.returns
returns c = no_layer_added c.args.log_keys.now c.args.entry.now c.in_ok-content.content c.in-Err.rejection _ _ (search rules) (sym c.if-is_memory.ensures) c.in-Err.ensures refl
