use Rattle.std.proofs.Common.{[]}
use Rattle.std.proofs.lemmas.List.{take_all}
use Rattle.std.proofs.lemmas.List.Elements.{All-nil}
use Rattle.live_host.specs.HostErrors.{AsksCause}
use Rattle.live_host.proofs.Causes.{ask_later, passed}
use Rattle.live_host.proofs.QuestionSteps.{all_asked, asks_both, asks_none, layers_next}
use Rattle.live_host.proofs.questions.ask_layers.Goals as goal

pub loop-layer-init : goal.loop-layer-init
loop-layer-init g c = (rw c.new-list.ensures (asks_none [] _), All-nil _)

pub loop-layer-preserved : goal.loop-layer-preserved
loop-layer-preserved g c = (
  asks_both _ _ _ _ _ _ c.loop-layer.invariant.0 c.in_ok-ask_layer.ensures.asked,
  layers_next _ _ _ _ c.args.keys.now c.args.log_keys.now c.args.layers.now c.loop-layer.layer-index c.layer-item.result c.loop-layer-test.true c.layer-item.is
      c.in_ok-ask_layer.ensures.asked c.loop-layer.invariant.1 c.in_ok-ask_layer.ensures.about,
)

pub returns-clause-asked : goal.returns-clause-asked
returns-clause-asked g c = all_asked _ _ _ c.loop-layer.invariant.0

pub returns-clause-about : goal.returns-clause-about
returns-clause-about g c = rw (take_all _ _ c.loop-layer-test.false) at c.loop-layer.invariant.1

pub returns-in_err-ask_layer-clause-cause : goal.returns-in_err-ask_layer-clause-cause
returns-in_err-ask_layer-clause-cause g c = passed AsksCause _ _ _ _ (ask_later _ _ _ _ _ _ c.loop-layer.invariant.0 c.in_err-ask_layer.ensures.cause) c.from_residual.ensures
