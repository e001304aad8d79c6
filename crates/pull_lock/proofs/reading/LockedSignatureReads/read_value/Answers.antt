use Rattle.json_tables.proofs.Refusals.{passed_on, behind}
use Rattle.pull_lock.specs.Files.{signature_of}
use Rattle.pull_lock.proofs.reading.LockedSignatureReads.read_value.Goals as goal

pub returns-in_err-annotations : goal.returns-in_err-annotations
unfolding signature_of
returns-in_err-annotations c =
    passed_on _ _ _ (behind _ _ c.in_ok-only.ensures (behind _ _ c.in_ok-kind.ensures (c.in_err-annotations.ensures.refused _))) c.from_residual-in_err-annotations.ensures
