use Rattle.locked_cases.proofs.Entered.{entered, refused}
use Rattle.locked_cases.proofs.lock.enter_pull.Goals as goal

pub returns-in-Ok : goal.returns-in-Ok
returns-in-Ok c = λ case asks once. entered case c.args.asked c.args.pull c.in-Ok.found c.enter_found-entered.result asks once c.in-Ok.is c.enter_found-entered.ensures

pub returns-in-Err : goal.returns-in-Err
returns-in-Err c = λ case asks once. refused case c.args.asked c.args.pull c.in-Err.refusal asks once c.in-Err.is
