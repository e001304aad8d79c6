use Rattle.std.proofs.Common.{subst}
use Rattle.locked_cases.specs.Entering.{EntersAll}
use Rattle.locked_cases.proofs.Entered.{in_order, file_written, refusal_written}
use Rattle.locked_cases.proofs.lock.lock_cases.Goals as goal

pub write_file-requires : goal.write_file-requires
write_file-requires c = in_order c.args.input c.in-Ok.lock.entries (subst (EntersAll c.args.input) c.in-Ok.is c.in_ok-entered.ensures) c.requires

pub returns-in-Ok : goal.returns-in-Ok
returns-in-Ok c = file_written c.args.input c.in-Ok.lock c.write_file.result (subst (EntersAll c.args.input) c.in-Ok.is c.in_ok-entered.ensures) c.write_file.ensures

pub returns-in-Err : goal.returns-in-Err
returns-in-Err c = refusal_written c.args.input c.in-Err.refused c.write_refused.result (subst (EntersAll c.args.input) c.in-Err.is c.in_ok-entered.ensures) c.write_refused.ensures
