use Rattle.live_host.specs.HostErrors.{GiveCause}
use Rattle.live_host.specs.Items.{layers_sent}
use Rattle.live_host.specs.Wire.{wire}
use Rattle.live_host.proofs.Causes.{layer_first, layer_later, passed}
use Rattle.live_host.proofs.FramesOut.{none_left, none_named, one_less, told_layer}
use Rattle.live_host.proofs.items.give_layers.Goals as goal

pub loop-descriptor-init : goal.loop-descriptor-init
loop-descriptor-init g c = (λ end h. h, λ e end h. h)

pub loop-descriptor-preserved : goal.loop-descriptor-preserved
loop-descriptor-preserved g c = (
  λ end h. c.loop-descriptor.invariant.0 end
      (told_layer c.loop-descriptor.named.now c.in-Some-Some.more.now c.loop-descriptor.rest.now c.in-Some-Some.others.now c.in-Some-Some.descriptor.now c.in-Some-Some.layer.now _ (wire g.S.Source.state g.K.Sink.state c.give.new.streams) end
      c.in-Some-Some.ensures.cases.0 c.in-Some-Some.ensures'.cases.0 c.in_ok-give.ensures.told h),
  λ e end h. c.loop-descriptor.invariant.1 e end
      (layer_later c.loop-descriptor.named.now c.in-Some-Some.more.now c.loop-descriptor.rest.now c.in-Some-Some.others.now c.in-Some-Some.descriptor.now c.in-Some-Some.layer.now e _ (wire g.S.Source.state g.K.Sink.state c.give.new.streams) end
      c.in-Some-Some.ensures.cases.0 c.in-Some-Some.ensures'.cases.0 c.in_ok-give.ensures.told h),
)

pub returns-in_err-give-clause-cause : goal.returns-in_err-give-clause-cause
returns-in_err-give-clause-cause g c =
    passed (GiveCause (layers_sent c.args.descriptors.now c.args.layers.now)) _ _ _ _
    (c.loop-descriptor.invariant.1 _ _
    (layer_first c.loop-descriptor.named.now c.in-Some-Some.more.now c.loop-descriptor.rest.now c.in-Some-Some.others.now c.in-Some-Some.descriptor.now c.in-Some-Some.layer.now _ _ _ c.in-Some-Some.ensures.cases.0 c.in-Some-Some.ensures'.cases.0 c.in_err-give.ensures.cause))
    c.from_residual.ensures

pub loop-descriptor-smaller : goal.loop-descriptor-smaller
loop-descriptor-smaller g c = one_less c.loop-descriptor.rest.now c.in-Some-Some.others.now c.in-Some-Some.layer.now c.in-Some-Some.ensures'.cases.0

pub returns-in_default-clause-told : goal.returns-in_default-clause-told
returns-in_default-clause-told g c = c.loop-descriptor.invariant.0 _ (none_left c.loop-descriptor.named.now c.loop-descriptor.rest.now _ c.in_default.ensures'.cases)

pub returns-in_default-2-clause-told : goal.returns-in_default-2-clause-told
returns-in_default-2-clause-told g c = c.loop-descriptor.invariant.0 _ (none_named c.loop-descriptor.named.now c.loop-descriptor.rest.now _ c.in_default.ensures.cases)
