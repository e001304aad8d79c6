use Rattle.std.proofs.Common.{◌∙◌}
use Rattle.pull_lock.proofs.Values.{signature_written, signature_again}
use Rattle.pull_lock.proofs.writing.LockedSignatureWrites.write_value.Goals as goal

pub returns-clause-exact : goal.returns-clause-exact
returns-clause-exact c = c.in_ok-value.ensures.exact ∙ signature_written c.args.self.now _ c.kind_text-kind.ensures

pub returns-clause-again : goal.returns-clause-again
returns-clause-again c = signature_again c.args.self.now
