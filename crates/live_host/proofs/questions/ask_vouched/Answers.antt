use Rattle.live_host.specs.HostErrors.{AsksCause, about_certificate}
use Rattle.live_host.proofs.Causes.{ask_first, ask_later, passed}
use Rattle.live_host.proofs.QuestionSteps.{asks_both, asks_one}
use Rattle.live_host.proofs.questions.ask_vouched.Goals as goal

pub returns-in_default-clause-asked : goal.returns-in_default-clause-asked
returns-in_default-clause-asked g c = asks_one c.args.answers.now _ c.in_ok-answer.answer _ _ c.in_ok-push.ensures.ok (rw c.in_ok-answer.ensures c.in_ok-vouched.ensures.asked)

pub returns-clause-asked : goal.returns-clause-asked
returns-clause-asked g c = asks_both _ _ _ _ _ _ (asks_one c.args.answers.now _ c.in_ok-answer.answer _ _ c.in_ok-push.ensures.ok (rw c.in_ok-answer.ensures c.in_ok-vouched.ensures.asked)) c.in_ok-ask_key.ensures.asked

pub returns-in_err-vouched-clause-cause : goal.returns-in_err-vouched-clause-cause
returns-in_err-vouched-clause-cause g c =
    passed AsksCause _ _ _ _ (ask_first (about_certificate c.args.evidence.now) _ _ _ c.in_err-vouched.ensures.cause) c.from_residual.ensures

pub returns-in_err-ask_key-clause-cause : goal.returns-in_err-ask_key-clause-cause
returns-in_err-ask_key-clause-cause g c =
    passed AsksCause _ _ _ _ (ask_later _ _ _ _ _ _ (asks_one c.args.answers.now _ c.in_ok-answer.answer _ _ c.in_ok-push.ensures.ok (rw c.in_ok-answer.ensures c.in_ok-vouched.ensures.asked)) c.in_err-ask_key.ensures.cause) c.from_residual-in_err-ask_key.ensures
