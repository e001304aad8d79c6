use Rattle.recorded_case.proofs.CaseParts.{case_ready, case_timed}
use Rattle.recorded_case.proofs.case.read_case.Goals as goal

pub returns-clause-ready : goal.returns-clause-ready
returns-clause-ready c = rw c.in_ok-case.ensures (case_ready _)

pub returns-clause-timed : goal.returns-clause-timed
returns-clause-timed c = rw c.in_ok-case.ensures (case_timed _)
