use Rattle.json_tables.proofs.Refusals.{passed_on, behind}
use Rattle.recorded_case.specs.Case.{case_of}
use Rattle.recorded_case.proofs.Later.{refused_later}
use Rattle.recorded_case.proofs.case.take_case.Goals as goal

pub returns-in_err-members : goal.returns-in_err-members
unfolding case_of
returns-in_err-members c =
    passed_on _ _ _ (behind _ _ c.in_ok-only.ensures (refused_later _ _ _ (λ registry. c.in_err-members.ensures.refused _))) c.from_residual-in_err-members.ensures
