use Rattle.json_tables.proofs.Refusals.{passed_on, behind}
use Rattle.pull_lock.specs.Files.{entry_of}
use Rattle.pull_lock.proofs.reading.LockEntryReads.read_value.Goals as goal

pub returns-in_err-accepted : goal.returns-in_err-accepted
unfolding entry_of
returns-in_err-accepted c =
    passed_on _ _ _ (behind _ _ c.in_ok-only.ensures (c.in_err-accepted.ensures.refused _)) c.from_residual-in_err-accepted.ensures
