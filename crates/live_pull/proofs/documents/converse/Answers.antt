use Rattle.live_pull.proofs.CourseParts.{course_found, course_refused}
use Rattle.live_pull.proofs.documents.converse.Goals as goal

pub returns-in-Ok-clause-decided : goal.returns-in-Ok-clause-decided
returns-in-Ok-clause-decided g c =
    course_found _ c.args.terms.now _ _ _ _ _ _ _ _ _ _ c.in-Ok.found c.ask_and_decide.result.outcome
    (rw c.in-Ok.is at c.collect-streams.ensures.collected) c.collect-streams.ensures.log_keys c.collect-streams.ensures.settings c.ask_and_decide.ensures.decided

pub returns-in-Err-clause-decided : goal.returns-in-Err-clause-decided
returns-in-Err-clause-decided g c = course_refused _ c.args.terms.now _ _ _ _ _ _ c.in-Err.refusal (rw c.in-Err.is at c.collect-streams.ensures.collected)
