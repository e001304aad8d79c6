use Rattle.std.proofs.Common.{Some, None, sym, ◌∙◌}
use Rattle.live_host.specs.HostErrors.{AsksCause}
use Rattle.live_host.proofs.Causes.{ask_later, passed}
use Rattle.live_host.proofs.QuestionSteps.{asks_both, asks_none, layer_asked}
use Rattle.live_host.proofs.questions.ask_layer.Goals as goal

pub returns-in_default-clause-asked : goal.returns-in_default-clause-asked
returns-in_default-clause-asked g c = asks_none _ _

pub returns-in_default-evidence-clause-asked : goal.returns-in_default-evidence-clause-asked
returns-in_default-evidence-clause-asked g c = asks_both _ _ _ _ _ _ c.in_ok-ask_log.ensures.asked c.in_ok-ask_keys.ensures.asked

pub returns-clause-asked : goal.returns-clause-asked
returns-clause-asked g c = asks_both _ _ _ _ _ _ c.in_ok-ask_log.ensures.asked c.in_ok-ask_vouched.ensures.asked

pub returns-in_default-evidence-clause-about : goal.returns-in_default-evidence-clause-about
returns-in_default-evidence-clause-about g c =
    layer_asked _ _ _ _ c.args.keys.now c.args.log_keys.now c.args.layer.now c.in_ok-message.message c.in-Some.signature None
    (rw c.as_str.ensures at (sym c.in_ok-signature.ensures ∙ c.in-Some.is)) c.in_ok-message.ensures.text (sym c.in_ok-evidence.ensures ∙ c.in_default-evidence.is)
    c.in_ok-ask_log.ensures.about c.in_ok-ask_keys.ensures.asked c.in_ok-ask_keys.ensures.about

pub returns-clause-about : goal.returns-clause-about
returns-clause-about g c =
    layer_asked _ _ _ _ c.args.keys.now c.args.log_keys.now c.args.layer.now c.in_ok-message.message c.in-Some.signature (Some c.in-Some-evidence.evidence)
    (rw c.as_str.ensures at (sym c.in_ok-signature.ensures ∙ c.in-Some.is)) c.in_ok-message.ensures.text (sym c.in_ok-evidence.ensures ∙ c.in-Some-evidence.is)
    c.in_ok-ask_log.ensures.about c.in_ok-ask_vouched.ensures.asked c.in_ok-ask_vouched.ensures.about

pub returns-in_err-ask_keys-clause-cause : goal.returns-in_err-ask_keys-clause-cause
returns-in_err-ask_keys-clause-cause g c = passed AsksCause _ _ _ _ (ask_later _ _ _ _ _ _ c.in_ok-ask_log.ensures.asked c.in_err-ask_keys.ensures.cause) c.from_residual-in_err-ask_keys.ensures

pub returns-in_err-ask_vouched-clause-cause : goal.returns-in_err-ask_vouched-clause-cause
returns-in_err-ask_vouched-clause-cause g c = passed AsksCause _ _ _ _ (ask_later _ _ _ _ _ _ c.in_ok-ask_log.ensures.asked c.in_err-ask_vouched.ensures.cause) c.from_residual-in_err-ask_vouched.ensures
