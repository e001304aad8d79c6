use Rattle.std.proofs.Common.{refl}
use Rattle.std.proofs.lemmas.List.{drop_all}
use Rattle.cosign_rows.proofs.Exits.{and_then, refused, wanting}
use Rattle.cosign_rows.proofs.Descriptors.{layers_end, layers_next}
use Rattle.cosign_pull.proofs.pull.pull_layers.Goals as goal

pub returns-in_err-content : goal.returns-in_err-content
returns-in_err-content g c = λ s. (c.loop-descriptor.invariant s).made _ _ _ (layers_next c.args.moment _ _ _ _ _ c.loop-descriptor-test.true c.descriptor-item.is (refused _ (c.in_err-content.ensures.run s) c.from_residual.ensures.1))

pub returns-in_err-layer : goal.returns-in_err-layer
returns-in_err-layer g c = λ s. (c.loop-descriptor.invariant s).made _ _ _ (layers_next c.args.moment _ _ _ _ _ c.loop-descriptor-test.true c.descriptor-item.is (and_then _ (c.in_ok-content.ensures.run s) (wanting _ refl c.from_residual-in_err-layer.ensures.1)))

pub returns-in_err-push : goal.returns-in_err-push
returns-in_err-push g c = λ s. (c.loop-descriptor.invariant s).made _ _ _ (layers_next c.args.moment _ _ _ _ _ c.loop-descriptor-test.true c.descriptor-item.is (and_then _ (c.in_ok-content.ensures.run s) (wanting _ refl c.from_residual-in_err-push.ensures.1)))

pub loop-descriptor-preserved : goal.loop-descriptor-preserved
loop-descriptor-preserved g c = λ s. record { made = λ e new r rest. (c.loop-descriptor.invariant s).made e new r (layers_next c.args.moment _ _ _ _ _ c.loop-descriptor-test.true c.descriptor-item.is (and_then _ (c.in_ok-content.ensures.run s) (rw (← c.in_ok-layer.ensures, ← c.in_ok-push.ensures.ok) rest))) }

pub returns : goal.returns
returns g c = λ s. (c.loop-descriptor.invariant s).made _ _ _ (layers_end c.args.moment _ _ _ (drop_all _ _ c.loop-descriptor-test.false))
