use Rattle.live_check.proofs.Ends.{asked_and_cut, asks_and_decides, asks_cut, passed_on}
use Rattle.live_check.proofs.serve.ask_and_decide.Goals as goal

pub returns-clause-told : goal.returns-clause-told
returns-clause-told g c = asks_and_decides _ _ _ _ c.in_ok-answers.answers _ _ _ c.in_ok-answers.ensures.asked (rw c.as_slice.ensures at c.in_ok-answers.ensures.about) c.in_ok-held.ensures.told

pub returns-in_err-answers-clause-cause : goal.returns-in_err-answers-clause-cause
returns-in_err-answers-clause-cause g c = passed_on _ _ _ (asks_cut _ _ _ _ _ _ _ _ c.in_err-answers.ensures.cause) c.from_residual.ensures

pub returns-in_err-held-clause-cause : goal.returns-in_err-held-clause-cause
returns-in_err-held-clause-cause g c =
    passed_on _ _ _ (asked_and_cut _ _ _ _ _ c.in_ok-answers.answers _ _ _ _ c.in_ok-answers.ensures.asked (rw c.as_slice.ensures at c.in_ok-answers.ensures.about) c.in_err-held.ensures.cause) c.from_residual-in_err-held.ensures
