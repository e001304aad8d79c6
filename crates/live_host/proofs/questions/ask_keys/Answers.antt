use Rattle.std.proofs.lemmas.List.{take_all}
use Rattle.std.proofs.lemmas.List.Elements.{All-nil}
use Rattle.live_host.specs.HostErrors.{AsksCause}
use Rattle.live_host.proofs.Causes.{ask_later, passed}
use Rattle.live_host.proofs.QuestionSteps.{asks_both, asks_none, keys_next}
use Rattle.live_host.proofs.questions.ask_keys.Goals as goal

pub loop-key-init : goal.loop-key-init
loop-key-init g c = (asks_none _ _, All-nil _)

pub loop-key-preserved : goal.loop-key-preserved
loop-key-preserved g c = (
  asks_both _ _ _ _ _ _ c.loop-key.invariant.0 c.in_ok-ask_key.ensures.asked,
  keys_next _ _ _ _ c.args.message.now c.args.signature.now c.args.keys.now c.loop-key.key-index c.key-item.result c.loop-key-test.true c.key-item.is
      c.in_ok-ask_key.ensures.asked c.loop-key.invariant.1 c.in_ok-ask_key.ensures.about,
)

pub returns-clause-asked : goal.returns-clause-asked
returns-clause-asked g c = c.loop-key.invariant.0

pub returns-clause-about : goal.returns-clause-about
returns-clause-about g c = rw (take_all _ _ c.loop-key-test.false) at c.loop-key.invariant.1

pub returns-in_err-ask_key-clause-cause : goal.returns-in_err-ask_key-clause-cause
returns-in_err-ask_key-clause-cause g c = passed AsksCause _ _ _ _ (ask_later _ _ _ _ _ _ c.loop-key.invariant.0 c.in_err-ask_key.ensures.cause) c.from_residual.ensures
