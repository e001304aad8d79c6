use Rattle.engine_requests.proofs.referrer_lists.with_artifact_type.Goals as goal

pub returns-in_ok-url-in-Some : goal.returns-in_ok-url-in-Some
returns-in_ok-url-in-Some c = rw c.in-Some.is c.in_ok-url-in-Some.ensures
