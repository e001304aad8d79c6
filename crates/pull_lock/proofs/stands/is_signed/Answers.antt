use Rattle.pull_lock.proofs.stands.is_signed.Goals as goal

pub returns : goal.returns
returns g c = c.is_signed_by.ensures c.in_ok-content.ensures
