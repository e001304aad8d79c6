use Rattle.json_tables.proofs.Refusals.{passed_on, behind}
use Rattle.recorded_case.specs.Trust.{signature_of}
use Rattle.recorded_case.proofs.trust.SignedRowEntry.read_entry.Goals as goal

pub returns-in_err-key : goal.returns-in_err-key
unfolding signature_of
returns-in_err-key c =
    passed_on _ _ _ (behind _ _ c.in_ok-only.ensures (c.in_err-key.ensures.refused _)) c.from_residual-in_err-key.ensures
