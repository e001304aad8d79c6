use Rattle.std.proofs.Common.{◌∙◌}
use Rattle.pull_lock.proofs.Values.{entry_written, entry_again}
use Rattle.pull_lock.proofs.writing.LockEntryWrites.write_value.Goals as goal

pub returns-clause-exact : goal.returns-clause-exact
returns-clause-exact c = c.in_ok-value.ensures.exact ∙ entry_written c.args.self.now

pub returns-clause-again : goal.returns-clause-again
returns-clause-again c = entry_again c.args.self.now
