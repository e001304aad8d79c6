use Rattle.live_check.proofs.EntryLayers.{about_one}
use Rattle.live_check.proofs.layers.ask_entry.Goals as goal

pub returns-clause-about : goal.returns-clause-about
returns-clause-about g c = about_one _ _ c.args.log_keys.now c.args.entry.now _ (rw c.new-layers.ensures at c.in_ok-add_layer.ensures) (rw c.as_slice.ensures at c.ask_layers.ensures.about)
