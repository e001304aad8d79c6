use Rattle.std.proofs.lemmas.List.{drop_all}
use Rattle.oci_protocol.proofs.Exits.{refused, and_then}
use Rattle.engine_rows.proofs.Exits.{wanting}
use Rattle.engine_pull.proofs.Layers.{held_as, layers_end, layers_next}
use Rattle.engine_pull.proofs.image.pull_layers.Goals as goal

pub loop-descriptor-init : goal.loop-descriptor-init
loop-descriptor-init g c = record { met = λ new l r rest. rest }

pub returns-in_err-content : goal.returns-in_err-content
returns-in_err-content g c = c.loop-descriptor.invariant.met _ _ _ (layers_next _ _ _ _ _ _ c.loop-descriptor-test.true c.descriptor-item.is (refused _ (held_as _ _ c.as_layer_descriptor-blob.ensures c.in_err-content.ensures) c.from_residual.ensures.1))

pub returns-in_err-layer : goal.returns-in_err-layer
returns-in_err-layer g c = c.loop-descriptor.invariant.met _ _ _ (layers_next _ _ _ _ _ _ c.loop-descriptor-test.true c.descriptor-item.is (and_then _ (held_as _ _ c.as_layer_descriptor-blob.ensures c.in_ok-content.ensures) (wanting c.from_residual-in_err-layer.ensures.1)))

pub returns-in_err-push : goal.returns-in_err-push
returns-in_err-push g c = c.loop-descriptor.invariant.met _ _ _ (layers_next _ _ _ _ _ _ c.loop-descriptor-test.true c.descriptor-item.is (and_then _ (held_as _ _ c.as_layer_descriptor-blob.ensures c.in_ok-content.ensures) (wanting c.from_residual-in_err-push.ensures.1)))

pub loop-descriptor-preserved : goal.loop-descriptor-preserved
loop-descriptor-preserved g c = record { met = λ new l r rest. c.loop-descriptor.invariant.met new l r (layers_next _ _ _ _ _ _ c.loop-descriptor-test.true c.descriptor-item.is (and_then _ (held_as _ _ c.as_layer_descriptor-blob.ensures c.in_ok-content.ensures) (rw (← c.in_ok-layer.ensures, ← c.in_ok-push.ensures.ok) rest))) }

pub returns : goal.returns
returns g c = c.loop-descriptor.invariant.met _ _ _ (layers_end _ _ _ _ _ _ (drop_all _ _ c.loop-descriptor-test.false))
