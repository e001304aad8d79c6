use Rattle.std.proofs.lemmas.Result.{err_from_is_err_and}
use Rattle.engine_requests.specs.Sources.{asked_at}
use Rattle.engine_requests.proofs.sources.asked_at.Goals as goal

pub returns-in_err-request-in-Web : goal.returns-in_err-request-in-Web
unfolding asked_at
returns-in_err-request-in-Web c = let at = err_from_is_err_and c.from_residual.result c.from_residual.ensures.1 in rw (c.in-Web.is, at.1, at.2) c.in_err-request-in-Web.ensures

pub returns-in_ok-request-in-Web : goal.returns-in_ok-request-in-Web
unfolding asked_at
returns-in_ok-request-in-Web c = rw c.in-Web.is c.in_ok-request-in-Web.ensures
