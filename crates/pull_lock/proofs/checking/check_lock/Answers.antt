use Rattle.pull_lock.proofs.checking.check_lock.Goals as goal

pub returns : goal.returns
returns g c = rw c.entries_of-entries.ensures at c.judge_entries.ensures
