use Rattle.std.proofs.Common.{take_all}
use Rattle.pull_mirror.proofs.Digests.{asked_none, next_layer}
use Rattle.pull_mirror.proofs.documents.ask_layers.Goals as goal

pub loop-layer-init : goal.loop-layer-init
loop-layer-init c = asked_none _ c.new.ensures c.new-2.ensures

pub loop-layer-preserved : goal.loop-layer-preserved
loop-layer-preserved c = next_layer c.args.layers.now c.loop-layer.layer-index c.layer-item.result _ _ c.loop-layer-test.true c.layer-item.is c.loop-layer.invariant c.in_ok-add_digest.ensures

pub returns : goal.returns
returns c = rw (take_all _ _ c.loop-layer-test.false) at c.loop-layer.invariant
