use Rattle.live_check.proofs.lock_serve.check_under.Goals as goal

pub returns : goal.returns
returns g c = rw c.promise_of-promise.ensures at c.check_lock.ensures
