use Rattle.live_check.proofs.EntryLayers.{all_added, none_added, one_added}
use Rattle.live_check.proofs.layers.layers_in.Goals as goal

pub loop-entry-init : goal.loop-entry-init
loop-entry-init c = rw c.new-layers.ensures (none_added c.args.log_keys.now _)

pub loop-entry-preserved : goal.loop-entry-preserved
loop-entry-preserved c = one_added c.args.log_keys.now _ _ c.entry-item.result _ _ c.loop-entry-test.true c.entry-item.is c.in_ok-add_layer.ensures c.loop-entry.invariant

pub returns : goal.returns
returns c = rw c.as_slice-entry-items.ensures at (all_added c.args.log_keys.now _ _ _ c.loop-entry-test.false c.loop-entry.invariant)
