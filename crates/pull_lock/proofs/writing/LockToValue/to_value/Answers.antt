use Rattle.std.proofs.Common.{◌∙◌}
use Rattle.pull_lock.proofs.Values.{lock_written}
use Rattle.pull_lock.proofs.writing.LockToValue.to_value.Goals as goal

pub returns : goal.returns
returns c = c.in_ok-value.ensures.exact ∙ lock_written c.args.self.now
