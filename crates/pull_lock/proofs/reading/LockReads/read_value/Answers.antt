use Rattle.json_tables.proofs.Refusals.{passed_on, behind}
use Rattle.pull_lock.specs.Files.{lock_of}
use Rattle.pull_lock.proofs.reading.LockReads.read_value.Goals as goal

pub returns-in_err-entries : goal.returns-in_err-entries
unfolding lock_of
returns-in_err-entries c =
    passed_on _ _ _ (behind _ _ c.in_ok-only.ensures (behind _ _ c.in_ok-read_version.ensures (c.in_err-entries.ensures.refused _))) c.from_residual-in_err-entries.ensures
