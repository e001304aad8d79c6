use Rattle.live_check.proofs.serve.documents_under.Goals as goal

pub returns : goal.returns
returns g c = rw c.promise_of-promise.ensures at c.documents_of.ensures
