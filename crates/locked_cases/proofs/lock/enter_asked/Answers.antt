use Rattle.locked_cases.proofs.lock.enter_asked.Goals as goal

pub returns-in-Ok : goal.returns-in-Ok
returns-in-Ok c = λ asks. c.enter_pull.ensures c.args.case asks c.in-Ok.ensures
