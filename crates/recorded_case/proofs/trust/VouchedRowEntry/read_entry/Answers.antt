use Rattle.json_tables.proofs.Refusals.{passed_on, behind}
use Rattle.recorded_case.specs.Trust.{vouched_of}
use Rattle.recorded_case.proofs.trust.VouchedRowEntry.read_entry.Goals as goal

pub returns-in_err-certificate : goal.returns-in_err-certificate
unfolding vouched_of
returns-in_err-certificate c =
    passed_on _ _ _ (behind _ _ c.in_ok-only.ensures (c.in_err-certificate.ensures.refused _)) c.from_residual-in_err-certificate.ensures
