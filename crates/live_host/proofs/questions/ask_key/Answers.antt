use Rattle.live_host.specs.HostErrors.{AsksCause, about_key}
use Rattle.live_host.proofs.Causes.{ask_first, passed}
use Rattle.live_host.proofs.QuestionSteps.{asks_one}
use Rattle.live_host.proofs.questions.ask_key.Goals as goal

pub returns-clause-asked : goal.returns-clause-asked
returns-clause-asked g c = asks_one c.args.answers.now _ c.in_ok-answer.answer _ _ c.in_ok-push.ensures.ok (rw c.in_ok-answer.ensures c.in_ok-valid.ensures.asked)

pub returns-in_err-valid-clause-cause : goal.returns-in_err-valid-clause-cause
returns-in_err-valid-clause-cause g c =
    passed AsksCause _ _ _ _ (ask_first (about_key c.args.key.now c.args.message.now c.args.signature.now) _ _ _ c.in_err-valid.ensures.cause) c.from_residual.ensures
